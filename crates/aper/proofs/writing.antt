pub mod IntegerLayouts
