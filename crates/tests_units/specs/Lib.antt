pub mod tests_cu_control
pub mod tests_du_node
