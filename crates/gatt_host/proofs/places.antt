pub mod Crediting
pub mod Places
pub mod Entering
pub mod Refusing
