pub mod OneTunnel
