mod Answers
mod Stages
