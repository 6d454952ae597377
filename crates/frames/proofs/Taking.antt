-- Frames taken off the front of what is pending, one after another.
use Rattle.std.proofs.Common.{◌≡◌, ℕ, Bool, true, List, [], ◌∷◌, ◌++◌, drop, refl, sym, ap, subst, ◌∙◌}
use Rattle.std.proofs.lemmas.List.{drop-append-le}
use Rattle.scsi_cdb.specs.declared.profile.Profile.{Profile}
use Rattle.frames.specs.Frames.{FrameValue, Complete, parsed_frame}
use Rattle.frames.specs.Stream.{Stop, Reads, frame, Takes}
use Rattle.frames.proofs.Streams.{stable, frame_within}

-- one frame more, after a LOGIN
pub takes_one : (pr : Profile) (l : Bool) (pending : List ℕ) (fs : List FrameValue) (rest : List ℕ) (s : FrameValue) (count : ℕ) → (l ≡ true) → Takes pr l pending fs rest
    → parsed_frame pr true rest ≡ Complete s count → Takes pr l pending (fs ++ s ∷ []) (drop count rest)
takes_one pr l pending [] rest s count on so here =
    (count, ap (λ (b : Bool). parsed_frame pr b pending) on ∙ ap (parsed_frame pr true) (sym so) ∙ here, ap (drop count) so)
takes_one pr l pending (f ∷ fs) rest s count on so here = (so.0, so.1, takes_one pr true (drop so.0 pending) fs rest s count refl so.2 here)

-- and then others
pub takes_more : (pr : Profile) (l : Bool) (pending : List ℕ) (fs : List FrameValue) (rest : List ℕ) (gs : List FrameValue) (end : List ℕ) → (l ≡ true) → Takes pr l pending fs rest
    → Takes pr true rest gs end → Takes pr l pending (fs ++ gs) end
takes_more pr l pending [] rest gs end on so more =
    subst (λ (b : Bool). Takes pr b pending gs end) (sym on) (subst (λ (p : List ℕ). Takes pr true p gs end) so more)
takes_more pr l pending (f ∷ fs) rest gs end on so more = (so.0, so.1, takes_more pr true (drop so.0 pending) fs rest gs end refl so.2 more)

-- whatever comes behind what is pending comes behind the rest
pub takes_before : (pr : Profile) (l : Bool) (pending : List ℕ) (fs : List FrameValue) (rest piece : List ℕ) → Takes pr l pending fs rest → Takes pr l (pending ++ piece) fs (rest ++ piece)
takes_before pr l pending [] rest piece so = ap (λ (xs : List ℕ). xs ++ piece) so
takes_before pr l pending (f ∷ fs) rest piece so = (
  so.0,
  stable pr l pending piece (Complete f so.0) so.1 (λ e. absurd cc),
  subst (λ (xs : List ℕ). Takes pr true xs fs (rest ++ piece)) (sym (drop-append-le so.0 pending piece (frame_within pr l pending f so.0 so.1)))
      (takes_before pr true (drop so.0 pending) fs rest piece so.2),
)

-- what is read of a stream is what was taken, and then what is read of the rest
pub taken_is_read : (pr : Profile) (l : Bool) (pending : List ℕ) (fs : List FrameValue) (rest : List ℕ) (others : List FrameValue) (stop : Stop) → (l ≡ true) → Takes pr l pending fs rest
    → Reads pr true rest others stop → Reads pr l pending (fs ++ others) stop
taken_is_read pr l pending [] rest others stop on so more =
    subst (λ (b : Bool). Reads pr b pending others stop) (sym on) (subst (λ (p : List ℕ). Reads pr true p others stop) so more)
taken_is_read pr l pending (f ∷ fs) rest others stop on so more =
    frame l pending f so.0 (fs ++ others) stop so.1 (taken_is_read pr true (drop so.0 pending) fs rest others stop refl so.2 more)
