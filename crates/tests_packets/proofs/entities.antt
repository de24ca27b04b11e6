mod QuotaLemmas
