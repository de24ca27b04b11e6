-- A source or a sink in memory.
use Rattle.std.specs.Prelude.{min, ℕ, Bool, true, false, List, [], drop}
use Rattle.gnb_base.specs.declared.memory.MemorySource.TheInside.{Inside as SourceInside}
use Rattle.gnb_base.specs.declared.memory.MemorySink.TheInside.{Inside as SinkInside}
use Rattle.gnb_base.specs.Outside.{one_more}

-- The bytes that are left or held, how many a call moves at most, how many calls there were, which of them fail,
-- how many failed, and whether the last one did. The two counts stand still at their last value.
pub record InMemory : Type 0 where
  pub bytes : List ℕ
  pub piece : ℕ
  pub calls : ℕ
  pub failing : List ℕ
  pub faults : ℕ
  pub failed : Bool

-- A sink has room for so many bytes from the start on.
pub record SinkInMemory : Type 0 where
  pub memory : InMemory
  pub room : ℕ

abbrev pub source_of : SourceInside → InMemory
source_of s = record {
  bytes = drop s.given s.bytes.items;
  piece = s.piece;
  calls = s.calls;
  failing = s.failing.items;
  faults = s.faults;
  failed = s.failed;
}

abbrev pub sink_of : SinkInside → SinkInMemory
sink_of s = record {
  memory = record {
    bytes = s.bytes.items;
    piece = s.piece;
    calls = s.calls;
    failing = s.failing.items;
    faults = s.faults;
    failed = s.failed;
  };
  room = s.room;
}

-- a new one
abbrev pub starts : List ℕ → ℕ → List ℕ → InMemory
starts bytes piece failing = record {
  bytes = bytes;
  piece = piece;
  calls = 0;
  failing = failing;
  faults = 0;
  failed = false;
}

abbrev pub empty_sink : ℕ → List ℕ → ℕ → SinkInMemory
empty_sink piece failing room = record { memory = starts [] piece failing; room = room }

-- a call that failed, and one that left these bytes
abbrev pub failed_from : InMemory → InMemory
failed_from s = record {
  bytes = s.bytes;
  piece = s.piece;
  calls = one_more s.calls;
  failing = s.failing;
  faults = one_more s.faults;
  failed = true;
}

abbrev pub moved_from : InMemory → List ℕ → InMemory
moved_from s bytes = record {
  bytes = bytes;
  piece = s.piece;
  calls = one_more s.calls;
  failing = s.failing;
  faults = s.faults;
  failed = false;
}

-- the same of a sink
abbrev pub sink_failed : SinkInMemory → SinkInMemory
sink_failed s = record { memory = failed_from s.memory; room = s.room }

abbrev pub sink_moved : SinkInMemory → List ℕ → SinkInMemory
sink_moved s bytes = record { memory = moved_from s.memory bytes; room = s.room }

-- how many bytes a call moves, of so many at hand and so many asked for
abbrev pub moved : InMemory → ℕ → ℕ → ℕ
moved s at_hand asked = min at_hand (min s.piece asked)
