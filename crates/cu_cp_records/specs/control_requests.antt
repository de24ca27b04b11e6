pub use Rattle.cu_cp_records.specs.control_actions as control_says
