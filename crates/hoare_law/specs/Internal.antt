-- What other crates use besides the definitions of the law: rising lists, and histories without their data.
pub mod Rising
pub mod WithoutData
