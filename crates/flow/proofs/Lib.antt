pub mod Bfs
pub mod Nearer
pub mod Blocking
pub mod Sending
pub mod LentMemory
pub mod Running
