-- A file that wasn't cut back.
use Rattle.std.proofs.Common.{◌≡◌, inl, ℕ, ◌≤◌, true, false, List, length, take, Option, Some, None, sym, ap, ◌∙◌, arith}
use Rattle.std.proofs.lemmas.List.{take-take, take_all}
use Rattle.tape_flush.specs.declared.fault.FlushFault.TheVariants.{Store, Unsynced}
use Rattle.tape_flush.specs.declared.known.Known.{Known}
use Rattle.tape_flush.specs.declared.store.StoreFault.{StoreFault}
use Rattle.tape_flush.specs.Stores.{Truncate, Sync, FileValue, DoesTo, contents_of}
use Rattle.tape_flush.specs.Careful.{IsKnown}
use Rattle.tape_flush.specs.Watched.{Same, IsStopped}
use Rattle.tape_flush.proofs.Knowing.{take_less, KnownIn}

-- its record wasn't written
pub stopped_noting : (size : ℕ) (piece : List ℕ) (k : Known) (f : Option FileValue) (k' : Known) (f' : Option FileValue) (fault : StoreFault) → size ≤ k.sound → k'.sound ≡ k.sound
    → Same (contents_of f) (contents_of f') → IsStopped size piece k f k' f' (Store fault)
stopped_noting size piece k None k' f' fault le same bytes = tt
stopped_noting size piece k (Some f) k' None fault le same bytes = absurd bytes
stopped_noting size piece k (Some f) k' (Some f') fault le same bytes = λ is. record {
  shrinks = omega (arith, same);
  stays = ap (take k'.sound) bytes;
  left = (omega (arith, same), inl (length f.contents, omega (arith, is.within), bytes ∙ sym (take_all (length f.contents) f.contents (omega arith))));
}

-- it couldn't be cut
pub stopped_cutting : (size : ℕ) (piece : List ℕ) (k : Known) (f f1 : Option FileValue) (k' : Known) (f' : Option FileValue) (fault : StoreFault) → size ≤ k.sound → k'.sound ≡ size
    → Same (contents_of f) (contents_of f1) → DoesTo (Truncate size false) f1 f' → IsStopped size piece k f k' f' (Store fault)
stopped_cutting size piece k None f1 k' f' fault le here bytes done = tt
stopped_cutting size piece k (Some f) None k' f' fault le here bytes done = absurd bytes
stopped_cutting size piece k (Some f) (Some f1) k' None fault le here bytes done = absurd done
stopped_cutting size piece k (Some f) (Some f1) k' (Some f') fault le here bytes done = λ is.
    let more : f'.contents ≡ take done.0 f.contents = ap (λ (v : FileValue). v.contents) done.2 ∙ ap (take done.0) bytes in
    record {
      shrinks = omega (arith, here);
      stays = ap (take k'.sound) more ∙ take-take k'.sound done.0 f.contents (omega (arith, here, done.1));
      left = (omega (arith, here), inl (done.0, done.1, more));
    }

-- it couldn't be brought to the disk
pub stopped_syncing : (size : ℕ) (piece : List ℕ) (k : Known) (f f1 : Option FileValue) (k2 : Known) (f2 : Option FileValue) (k' : Known) (f' : Option FileValue) (fault : StoreFault)
    → size ≤ k.sound → k2.synced ≤ size → k'.sound ≡ k2.synced → Same (contents_of f) (contents_of f1) → DoesTo (Truncate size true) f1 f2 → (KnownIn k f → KnownIn k2 f2)
    → DoesTo (Sync false) f2 f' → IsStopped size piece k f k' f' (Unsynced fault)
stopped_syncing size piece k None f1 k2 f2 k' f' fault le less here bytes cut known lost = tt
stopped_syncing size piece k (Some f) None k2 f2 k' f' fault le less here bytes cut known lost = absurd bytes
stopped_syncing size piece k (Some f) (Some f1) k2 None k' f' fault le less here bytes cut known lost = absurd cut
stopped_syncing size piece k (Some f) (Some f1) k2 (Some f2) k' None fault le less here bytes cut known lost = absurd lost
stopped_syncing size piece k (Some f) (Some f1) k2 (Some f2) k' (Some f') fault le less here bytes cut known lost = λ is.
    let was : IsKnown k2 f2 = known is in
    let more : f2.contents ≡ take size f.contents = ap (λ (v : FileValue). v.contents) cut ∙ ap (take size) bytes in
    record {
      shrinks = omega (arith, here, less);
      stays = take_less k'.sound (length f2.synced) f'.contents f2.contents (omega (arith, here, was.synced)) lost.front
          ∙ ap (take k'.sound) more
          ∙ take-take k'.sound size f.contents (omega (arith, here, less));
      left = tt;
    }
