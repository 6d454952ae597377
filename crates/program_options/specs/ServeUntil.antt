-- How long a library is served, and by how many workers (profile).
use Rattle.std.specs.Prelude.{ℕ}
use Rattle.program_options.specs.declared.serve_until.ServeUntil.{ServeUntil}
use Rattle.program_options.specs.declared.serve_until.ServeUntil.TheVariants.{Sessions, InputEnds}

-- each of so many sessions has a worker of its own
abbrev pub workers_of : ServeUntil → ℕ
workers_of (Sessions count) = count
workers_of (InputEnds workers) = workers

-- the end of the input comes first
abbrev pub sessions_of : ServeUntil → ℕ
sessions_of (Sessions count) = count
sessions_of (InputEnds workers) = 18446744073709551615
