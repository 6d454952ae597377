use Rattle.std.proofs.Common.{◌≡◌, ◌<◌, ℕ, ◌+◌, Result, Ok, ap, ◌∙◌, arith}
use Rattle.tape_medium.specs.declared.elements.MapFault.{MapFault}
use Rattle.tape_medium.specs.declared.volume.Volume.{Volume}
use Rattle.tape_medium.specs.Elements.{Elements, puts}
use Rattle.program_options.specs.declared.library_options.LibraryOptions.{LibraryOptions}
use Rattle.program_options.specs.Options.{AreInRange}
use Rattle.library_start.specs.Stock.{volume_of, stocked_to}
use Rattle.library_start.proofs.StockLemmas.{put_next}
use Rattle.library_start.proofs.stock.stocked.Goals as goal

-- a volume that is put behind those that are there goes in
goes_in : (options : LibraryOptions) (e : Elements) (v : Volume) (k : ℕ) → e ≡ stocked_to options k → v ≡ volume_of options.volume_size (k + 1) → AreInRange options → k < options.slots
    → ◌≡◌ {A = Result Elements MapFault} (puts e (1024 + k) v) (Ok (stocked_to options (k + 1)))
goes_in options e v k is next range there =
    ap (λ (x : Elements). puts x (1024 + k) v) is ∙ ap (λ (x : Volume). puts (stocked_to options k) (1024 + k) x) next ∙ put_next options k range there

pub unreachable-requires : goal.unreachable-requires
unreachable-requires c =
    let next = goes_in c.args.options.now c.volumes.elements c.volume_of-volume.result c.volumes.place c.volumes.invariant c.volume_of-volume.ensures c.requires.range (omega (arith, c.volumes-test.true, c.requires.fits)) in
    let fault = c.in-Err.ensures.fault in
    absurd cc

pub volumes-preserved : goal.volumes-preserved
volumes-preserved c =
    let next = goes_in c.args.options.now c.volumes.elements c.volume_of-volume.result c.volumes.place c.volumes.invariant c.volume_of-volume.ensures c.requires.range (omega (arith, c.volumes-test.true, c.requires.fits)) in
    let ok = c.in-Ok.ensures.ok in
    cc
