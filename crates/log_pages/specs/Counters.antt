-- The counters of a drive, in bytes.
use Rattle.std.specs.Prelude.{ℕ, ◌+◌, ◌-◌, ◌^◌, min, Bool, true, false}
use Rattle.log_pages.specs.declared.counters.LogCounters.{LogCounters}
use Rattle.log_pages.specs.declared.change.LogChange.{LogChange}
use Rattle.log_pages.specs.declared.change.LogChange.TheVariants.{Unchanged, AllPages, WriteErrorCounters, ReadErrorCounters, SequentialAccessDevice, PageWithoutCounters}

-- a counter of 64 bits after so many more: it stops at its greatest value
abbrev pub counted : (counter more : ℕ) → ℕ
counted counter more = min (counter + more) (2 ^ 64 - 1)

abbrev pub at_power_on : LogCounters
at_power_on =
    record { write_bytes_processed = 0; read_bytes_processed = 0; data_bytes_received = 0; data_bytes_read = 0; data_bytes_sent = 0 }

-- after a WRITE of so many bytes
abbrev pub wrote : LogCounters → (bytes : ℕ) → LogCounters
wrote c bytes = record c {
  write_bytes_processed = counted c.write_bytes_processed bytes;
  data_bytes_received = counted c.data_bytes_received bytes;
}

-- after a READ that passed blocks of so many bytes and sent so many
abbrev pub read : LogCounters → (passed sent : ℕ) → LogCounters
read c passed sent = record c {
  read_bytes_processed = counted c.read_bytes_processed passed;
  data_bytes_read = counted c.data_bytes_read passed;
  data_bytes_sent = counted c.data_bytes_sent sent;
}

-- after a LOG SELECT: the counters of the pages that it resets are 0, and all others stay
abbrev pub after : LogCounters → LogChange → LogCounters
after c Unchanged = c
after c AllPages = at_power_on
after c WriteErrorCounters = record c { write_bytes_processed = 0 }
after c ReadErrorCounters = record c { read_bytes_processed = 0 }
after c SequentialAccessDevice = record c { data_bytes_received = 0; data_bytes_read = 0; data_bytes_sent = 0 }
after c PageWithoutCounters = c

-- whether parameters of some page were reset
abbrev pub is_reset : LogChange → Bool
is_reset Unchanged = false
is_reset AllPages = true
is_reset WriteErrorCounters = true
is_reset ReadErrorCounters = true
is_reset SequentialAccessDevice = true
is_reset PageWithoutCounters = true
