pub mod Owing
pub mod Firsts
pub mod Nexts
pub mod Untold
pub mod Lacking
