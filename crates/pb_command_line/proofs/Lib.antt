pub mod AddedCommands
