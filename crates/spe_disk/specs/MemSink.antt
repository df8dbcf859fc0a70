-- What a sink in memory has taken, and when it fails.
use Rattle.std.specs.Prelude.{◌≡◌, ℕ, ◌-◌, ◌&&◌, ◌||◌, ◌==◌, nat_lt, min, List, length, Result, is_err, IfOk, OnErr}
use Rattle.spe_disk.specs.declared.disk.Failed.{Failed}
use Rattle.spe_disk.specs.declared.mem_sink.MemSink.{MemSink}
use Rattle.spe_disk.specs.Listed.{next_number, is_listed}

abbrev pub bytes_taken : MemSink → List ℕ
bytes_taken s = s.store.items

-- how often it has failed
abbrev pub sink_faults : MemSink → ℕ
sink_faults s = s.faults

-- how often it was called, up to the greatest number of its type
abbrev pub put_count : MemSink → ℕ
put_count s = s.calls

-- how many bytes it may take in all
abbrev pub sink_room : MemSink → ℕ
sink_room s = s.room

-- how many it takes a call at most
abbrev pub most_taken : MemSink → ℕ
most_taken s = s.most

-- the calls that are to fail
abbrev pub listed_puts : MemSink → List ℕ
listed_puts s = s.failing

-- how many first bytes of a piece it takes, where it does not fail
abbrev pub count_taken : MemSink → List ℕ → ℕ
count_taken s bytes = min (min (length bytes) (sink_room s - length (bytes_taken s))) (most_taken s)

-- a call fails exactly where it is listed or can take none of the bytes there are, and then takes none
pub record PutsAsListed (old new : MemSink) (bytes : List ℕ) (result : Result ℕ Failed) : Type 0 where
  pub fails : is_err result ≡ (is_listed (listed_puts old) (next_number (put_count old)) || ((count_taken old bytes == 0) && nat_lt 0 (length bytes)))
  pub count : IfOk result (λ n. n ≡ count_taken old bytes)
  pub none : OnErr result (bytes_taken new ≡ bytes_taken old)
  pub puts : put_count new ≡ next_number (put_count old)
  pub room : sink_room new ≡ sink_room old
  pub most : most_taken new ≡ most_taken old
  pub listed : listed_puts new ≡ listed_puts old
