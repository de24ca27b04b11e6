pub mod TickLemmas
