mod Many
mod Numbered
