mod PutLemmas
mod NumberLemmas
