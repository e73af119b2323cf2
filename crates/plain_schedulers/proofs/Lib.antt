pub mod Ring
pub mod Buffers
pub mod MesaBuffers
