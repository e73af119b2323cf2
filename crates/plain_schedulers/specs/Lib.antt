pub mod Singles
pub mod SingleTraces
pub mod Buffers
pub mod BufferTraces
pub mod Ring
pub mod MesaTraces
