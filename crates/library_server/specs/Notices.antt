-- What is told where serving begins (profile).
use Rattle.std.specs.Prelude.{ℕ, ◌==◌, List, ◌++◌, codes, if◌then◌else◌}
use Rattle.std.specs.Fmt.{decimal}
use Rattle.library_server.specs.declared.notice.Notice.{Notice}
use Rattle.library_server.specs.declared.notice.Notice.TheVariants.{TookAway, Serving, LargerThanMemory}

abbrev pub plural : ℕ → List ℕ
plural count = if count == 1 then codes "" else codes "s"

abbrev pub at_each : ℕ → List ℕ
at_each count = if count == 1 then codes "" else codes " at each"

abbrev pub notice_text : Notice → List ℕ
notice_text (TookAway path) = codes "vtl: removed " ++ (path.now ++ codes ": nobody listened there")
notice_text (Serving places count units workers) =
    codes "vtl: serving at " ++ (places.now ++ (codes ": " ++ (decimal units
    ++ (codes " units, " ++ (decimal workers ++ (codes " worker" ++ (plural workers ++ at_each count)))))))
notice_text (LargerThanMemory size memory) =
    codes "vtl: the volumes may hold " ++ (decimal size ++ (codes " bytes of blocks together, and --memory is " ++ (decimal memory
    ++ codes " bytes: writes end in BUSY once it is used up")))
