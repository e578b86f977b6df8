-- What a panel field shows.
pub mod Panel
