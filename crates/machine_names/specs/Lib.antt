pub mod MachineName
