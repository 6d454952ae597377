use Rattle.std.proofs.Common.{◌≡◌, ℕ, true, false, is_ok, length, drop, ◌++◌, refl, sym, ap, subst, ◌∙◌, arith}
use Rattle.tape_flush.specs.declared.known.Known.{Known}
use Rattle.tape_flush.specs.Stores.{Sync, Note, contents_of}
use Rattle.tape_flush.specs.Careful.{stays, GoesOn}
use Rattle.tape_flush.specs.Saved.{SavedImageValue, Has, HoldsIn, last_end, ends_within}
use Rattle.tape_flush.proofs.Going.{one_call, joined}
use Rattle.tape_flush.proofs.Knowing.{goes_known}
use Rattle.tape_flush.proofs.CopyLemmas.{first_now, still, forgot, same_synced, same_noted, same_again, noted_sound, on_ok, on_err}
use Rattle.tape_flush.proofs.saved_image.SavedImage.sync_anew.Goals as goal

pub returns-then-not-is_whole-clause-goes : goal.returns-then-not-is_whole-clause-goes
returns-then-not-is_whole-clause-goes g c = stays _ _

pub returns-then-not-is_whole-clause-err : goal.returns-then-not-is_whole-clause-err
returns-then-not-is_whole-clause-err g c objects others has = (others, first_now c.args.self.now.file c.args.self.now.known c.args.self.now.ends objects others has)

pub returns-in-Err-clause-goes : goal.returns-in-Err-clause-goes
returns-in-Err-clause-goes g c =
    subst (λ (v : SavedImageValue g.row.S.Denot). GoesOn g.S.ImageStore.did v.store v.known c.sync.new.self.store c.sync.new.self.known) c.self.view_is
    (one_call g.S.ImageStore.did _ _ _ _ (Sync false) tt c.in-Err.ensures.did c.in-Err.ensures.known)

pub returns-in-Err-clause-err : goal.returns-in-Err-clause-err
returns-in-Err-clause-err g c objects others has =
    let has' : HoldsIn (g.S.ImageStore.file c.self.inside.file.store) c.self.inside.file.known c.self.inside.ends.items objects others =
    subst (λ (v : SavedImageValue g.row.S.Denot). Has v objects others) (sym c.self.view_is) has in
    let goes : GoesOn g.S.ImageStore.did c.self.inside.file.store c.self.inside.file.known c.sync.new.self.store c.sync.new.self.known =
    one_call g.S.ImageStore.did _ _ _ _ (Sync false) tt c.in-Err.ensures.did c.in-Err.ensures.known in
    let sound : c.sync.new.self.known.sound ≡ c.self.inside.file.known.synced = ap (λ (v : Known). v.sound) c.in-Err.ensures.known in
    let are : c.keep_within.new.ends.items ≡ ends_within c.sync.new.self.known.sound c.self.inside.ends.items =
    c.keep_within.ensures ∙ ap (λ (v : Known). ends_within v.sound c.self.inside.ends.items) c.known.ensures in
    let n : ℕ = length c.keep_within.new.ends.items in (
      drop n objects ++ others,
      forgot (g.S.ImageStore.file c.self.inside.file.store) (g.S.ImageStore.file c.sync.new.self.store) c.self.inside.file.known c.sync.new.self.known c.self.inside.ends.items
          c.keep_within.new.ends.items objects others has' (λ is. goes_known g.S.ImageStore.did g.S.ImageStore.file g.met.S.ImageStore.does _ _ _ _ goes is)
          (g.met.S.ImageStore.does _ _ _ c.in-Err.ensures.did) sound are,
    )

pub returns-clause-goes : goal.returns-clause-goes
returns-clause-goes g c =
    let whole : c.self.inside.file.known.sound ≡ last_end c.self.inside.ends.items =
    subst (λ (v : SavedImageValue g.row.S.Denot). v.known.sound ≡ last_end v.ends) (sym c.self.view_is) (c.if-not-is_whole.ensures.0 refl).1 in
    let end : c.last_end.result ≡ last_end c.self.inside.ends.items = c.last_end.ensures ∙ ap last_end c.deref.ensures.value in
    let synced = ap (λ (v : Known). v.synced) c.in_default.ensures.known in
    let goes : GoesOn g.S.ImageStore.did c.self.inside.file.store c.self.inside.file.known c.note.new.self.store c.note.new.self.known =
    joined g.S.ImageStore.did _ _ _ _ _ _
    (one_call g.S.ImageStore.did _ _ _ _ (Sync true) tt c.in_default.ensures.did c.in_default.ensures.known)
    (one_call g.S.ImageStore.did _ _ _ _ (Note c.last_end.result (is_ok c.note.result)) (omega (arith, synced, whole, end)) c.note.ensures.did c.note.ensures.known) in
    subst (λ (v : SavedImageValue g.row.S.Denot). GoesOn g.S.ImageStore.did v.store v.known c.note.new.self.store c.note.new.self.known) c.self.view_is goes

pub returns-clause-same : goal.returns-clause-same
returns-clause-same g c objects others has =
    let has' : HoldsIn (g.S.ImageStore.file c.self.inside.file.store) c.self.inside.file.known c.self.inside.ends.items objects others =
    subst (λ (v : SavedImageValue g.row.S.Denot). Has v objects others) (sym c.self.view_is) has in
    let whole : c.self.inside.file.known.sound ≡ last_end c.self.inside.ends.items =
    subst (λ (v : SavedImageValue g.row.S.Denot). v.known.sound ≡ last_end v.ends) (sym c.self.view_is) (c.if-not-is_whole.ensures.0 refl).1 in
    let end : c.last_end.result ≡ last_end c.self.inside.ends.items = c.last_end.ensures ∙ ap last_end c.deref.ensures.value in
    let synced = ap (λ (v : Known). v.synced) c.in_default.ensures.known in
    let goes : GoesOn g.S.ImageStore.did c.self.inside.file.store c.self.inside.file.known c.note.new.self.store c.note.new.self.known =
    joined g.S.ImageStore.did _ _ _ _ _ _
    (one_call g.S.ImageStore.did _ _ _ _ (Sync true) tt c.in_default.ensures.did c.in_default.ensures.known)
    (one_call g.S.ImageStore.did _ _ _ _ (Note c.last_end.result (is_ok c.note.result)) (omega (arith, synced, whole, end)) c.note.ensures.did c.note.ensures.known) in
    let same = same_again (contents_of (g.S.ImageStore.file c.self.inside.file.store)) (contents_of (g.S.ImageStore.file c.sync.new.self.store)) (contents_of (g.S.ImageStore.file c.note.new.self.store))
    (same_synced _ _ (g.met.S.ImageStore.does _ _ _ c.in_default.ensures.did)) (same_noted _ _ c.last_end.result (is_ok c.note.result) (g.met.S.ImageStore.does _ _ _ c.note.ensures.did)) in
    let sound : c.note.new.self.known.sound ≡ c.self.inside.file.known.sound =
    ap (λ (v : Known). v.sound) c.note.ensures.known ∙ noted_sound c.sync.new.self.known c.last_end.result (is_ok c.note.result) ∙ ap (λ (v : Known). v.sound) c.in_default.ensures.known in
    let now : HoldsIn (g.S.ImageStore.file c.note.new.self.store) c.note.new.self.known c.self.inside.ends.items objects others =
    still (g.S.ImageStore.file c.self.inside.file.store) (g.S.ImageStore.file c.note.new.self.store) c.self.inside.file.known c.note.new.self.known c.self.inside.ends.items objects others has'
    (λ is. goes_known g.S.ImageStore.did g.S.ImageStore.file g.met.S.ImageStore.does _ _ _ _ goes is) same sound in
    on_ok c.note.result _ now

pub returns-clause-err : goal.returns-clause-err
returns-clause-err g c objects others has =
    let has' : HoldsIn (g.S.ImageStore.file c.self.inside.file.store) c.self.inside.file.known c.self.inside.ends.items objects others =
    subst (λ (v : SavedImageValue g.row.S.Denot). Has v objects others) (sym c.self.view_is) has in
    let whole : c.self.inside.file.known.sound ≡ last_end c.self.inside.ends.items =
    subst (λ (v : SavedImageValue g.row.S.Denot). v.known.sound ≡ last_end v.ends) (sym c.self.view_is) (c.if-not-is_whole.ensures.0 refl).1 in
    let end : c.last_end.result ≡ last_end c.self.inside.ends.items = c.last_end.ensures ∙ ap last_end c.deref.ensures.value in
    let synced = ap (λ (v : Known). v.synced) c.in_default.ensures.known in
    let goes : GoesOn g.S.ImageStore.did c.self.inside.file.store c.self.inside.file.known c.note.new.self.store c.note.new.self.known =
    joined g.S.ImageStore.did _ _ _ _ _ _
    (one_call g.S.ImageStore.did _ _ _ _ (Sync true) tt c.in_default.ensures.did c.in_default.ensures.known)
    (one_call g.S.ImageStore.did _ _ _ _ (Note c.last_end.result (is_ok c.note.result)) (omega (arith, synced, whole, end)) c.note.ensures.did c.note.ensures.known) in
    let same = same_again (contents_of (g.S.ImageStore.file c.self.inside.file.store)) (contents_of (g.S.ImageStore.file c.sync.new.self.store)) (contents_of (g.S.ImageStore.file c.note.new.self.store))
    (same_synced _ _ (g.met.S.ImageStore.does _ _ _ c.in_default.ensures.did)) (same_noted _ _ c.last_end.result (is_ok c.note.result) (g.met.S.ImageStore.does _ _ _ c.note.ensures.did)) in
    let sound : c.note.new.self.known.sound ≡ c.self.inside.file.known.sound =
    ap (λ (v : Known). v.sound) c.note.ensures.known ∙ noted_sound c.sync.new.self.known c.last_end.result (is_ok c.note.result) ∙ ap (λ (v : Known). v.sound) c.in_default.ensures.known in
    let now : HoldsIn (g.S.ImageStore.file c.note.new.self.store) c.note.new.self.known c.self.inside.ends.items objects others =
    still (g.S.ImageStore.file c.self.inside.file.store) (g.S.ImageStore.file c.note.new.self.store) c.self.inside.file.known c.note.new.self.known c.self.inside.ends.items objects others has'
    (λ is. goes_known g.S.ImageStore.did g.S.ImageStore.file g.met.S.ImageStore.does _ _ _ _ goes is) same sound in
    on_err c.note.result _ (others, first_now (g.S.ImageStore.file c.note.new.self.store) c.note.new.self.known c.self.inside.ends.items objects others now)
