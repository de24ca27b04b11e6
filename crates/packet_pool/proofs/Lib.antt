mod RegionLemmas
mod AccountLemmas
mod EntryLemmas
mod PoolChanges
mod PoolLemmas
