mod SentLemmas
