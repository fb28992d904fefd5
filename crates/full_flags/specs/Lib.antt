-- The definitions: when flags may be looked at, and what that does and tells.
pub mod Flags
