pub mod DownlinkOnly
