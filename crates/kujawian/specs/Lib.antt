-- The state as C hands it over, and what each call leaves of it.
pub mod Face
