pub mod AllReady
