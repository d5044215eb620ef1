pub mod QueryLemmas
pub mod ScriptLemmas
