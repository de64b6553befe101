pub mod Invent
