pub mod End
pub mod Form
pub mod Grammar
pub mod Lends
pub mod PduBuf
pub mod Request
pub mod Response
pub mod Uuid
