mod BearerLemmas
