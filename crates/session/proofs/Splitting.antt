-- Streams cut into frames, piece by piece.
use Rattle.std.proofs.Common.{◌≡◌, ℕ, false, List, [], ◌∷◌, ◌++◌, refl, sym, ap, subst, ◌∙◌, append_assoc}
use Rattle.std.proofs.lemmas.List.{append-nil}
use Rattle.std.specs.List.{concat}
use Rattle.scsi_cdb.specs.declared.profile.Profile.{Profile}
use Rattle.frames.specs.Frames.{FrameValue, parsed_frame}
use Rattle.frames.specs.Stream.{Stop, Waiting, Reads, partial, Feeds}
use Rattle.frames.proofs.Streams.{pieces_join, one_reading}
use Rattle.session.specs.Splitting.{FeedsAll, Splits}

-- what was fed, and then pieces one after another, as one piece
joined : (pr : Profile) (a : Stop) (p : List ℕ) (fs : List FrameValue) (s : Stop) (pieces : List (List ℕ)) (gs : List FrameValue) (t : Stop)
    → Feeds pr a p fs s → FeedsAll pr s pieces gs t → Feeds pr a (p ++ concat pieces) (fs ++ gs) t
joined pr a p fs s [] gs t so more =
    let same : fs ++ gs ≡ fs = ap (λ (x : List FrameValue). fs ++ x) more.0 ∙ append-nil fs in
    subst (λ (q : List ℕ). Feeds pr a q (fs ++ gs) t) (sym (append-nil p))
    (subst (λ (x : List FrameValue). Feeds pr a p x t) (sym same) (subst (λ (x : Stop). Feeds pr a p fs x) (sym more.1) so))
joined pr a p fs s (piece ∷ pieces) gs t so more =
    let on : Feeds pr a (p ++ piece) (fs ++ more.0) more.2 = pieces_join pr a p fs s piece more.0 more.2 so more.4 in
    let all : Feeds pr a ((p ++ piece) ++ concat pieces) ((fs ++ more.0) ++ more.1) t = joined pr a (p ++ piece) (fs ++ more.0) more.2 pieces more.1 t on more.5 in
    let same : (fs ++ more.0) ++ more.1 ≡ fs ++ gs = append_assoc fs more.0 more.1 ∙ ap (λ (x : List FrameValue). fs ++ x) (sym more.3) in
    subst (λ (q : List ℕ). Feeds pr a q (fs ++ gs) t) (append_assoc p piece (concat pieces))
    (subst (λ (x : List FrameValue). Feeds pr a ((p ++ piece) ++ concat pieces) x t) same all)

-- the frames of all pieces are those of the stream
pub splits_read : (pr : Profile) (pieces : List (List ℕ)) (frames : List FrameValue) (stop : Stop) → Splits pr pieces frames stop → Reads pr false (concat pieces) frames stop
unfolding parsed_frame
splits_read pr pieces frames stop so = joined pr (Waiting false []) [] [] (Waiting false []) pieces frames stop (partial false [] refl) so

-- and so are those of any other pieces of it
pub same_frames : (pr : Profile) (pieces others : List (List ℕ)) (fs gs : List FrameValue) (s t : Stop) → concat pieces ≡ concat others → Splits pr pieces fs s → Splits pr others gs t
    → (fs ≡ gs) × (s ≡ t)
same_frames pr pieces others fs gs s t same one two =
    let here : Reads pr false (concat others) fs s = subst (λ (b : List ℕ). Reads pr false b fs s) same (splits_read pr pieces fs s one) in
    one_reading pr false (concat others) fs s here gs t (splits_read pr others gs t two)
