pub mod Cell
pub mod Change
pub mod FlatStore
pub mod PlainStore
pub mod ValueStore
