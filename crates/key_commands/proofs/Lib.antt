pub mod query_lemmas
pub mod local_lemmas
pub mod generate_lemmas
pub mod NamedDevices
