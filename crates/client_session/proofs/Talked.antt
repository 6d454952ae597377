-- A host's session so far, frame by frame.
use Rattle.std.proofs.Common.{◌≡◌, ℕ, List, [], ◌∷◌, ◌++◌, length, take, drop, take-append-drop, length-take-le, ◌≤◌, refl, sym, ap, subst}
use Rattle.std.proofs.Common.{◌∙◌, append_assoc, append-nil}
use Rattle.std.specs.Io.KnownBytes.{Consumes, Appends}
use Rattle.std.proofs.KnownBytes.{Consumes-nil, Consumes-trans, Appends-nil, Appends-trans}
use Rattle.std.proofs.lemmas.List.Concat.{flat_map-append}
use Rattle.scsi_cdb.specs.declared.profile.Profile.{Profile}
use Rattle.frames.specs.Frames.{FrameValue}
use Rattle.frames.specs.Replies.{ReplyFrameValue}
use Rattle.frames.specs.ParsedReplies.{Partial, Complete, parsed_reply}
use Rattle.frames.specs.Sending.{frame_bytes}
use Rattle.frames.proofs.ReplyPieces.{reply_stays}
use Rattle.output_lines.specs.declared.explained.Explanations.{Explanations}
use Rattle.client_session.specs.Talking.{IsReplyTo, AreRepliesTo, Tells, told_text, session_text, stream_of, Streams, Talks}
use Rattle.client_session.specs.Waiting.{Answers, Exchanges}

-- nothing yet
pub talks_none : (pr : Profile) (x : Explanations) (before : Streams) → Talks pr x [] before before []
talks_none pr x before = record {
  read = [];
  replies = [];
  consumed = Consumes-nil before.left;
  told = refl;
  answered = tt;
  sent = Appends-nil before.written;
  lines = Appends-nil before.shown;
}

whole_is_more : (r : ReplyFrameValue) (count : ℕ) → Complete r count ≡ Partial → ⊥
whole_is_more r count e = absurd cc

-- one more reply, some of whose bytes were read before
tells_on : (pr : Profile) (bytes : List ℕ) (replies : List ReplyFrameValue) (rest more piece rest' : List ℕ) (r : ReplyFrameValue)
    → Tells pr bytes replies rest → rest ++ more ≡ piece ++ rest' → parsed_reply pr (rest ++ more) ≡ Complete r (length piece)
    → Tells pr (bytes ++ more) (replies ++ r ∷ []) rest'
tells_on pr bytes [] rest more piece rest' r so split parsed = (
  piece,
  rest',
  ap (λ (b : List ℕ). b ++ more) (sym so) ∙ split,
  ap (λ (b : List ℕ). parsed_reply pr (b ++ more)) (sym so) ∙ parsed,
  refl,
)
tells_on pr bytes (q ∷ replies) rest more piece rest' r so split parsed = (
  so.0,
  so.1 ++ more,
  ap (λ (b : List ℕ). b ++ more) so.2 ∙ append_assoc so.0 so.1 more,
  reply_stays pr bytes more (λ e. whole_is_more q (length so.0) (sym so.3 ∙ e)) ∙ so.3,
  tells_on pr so.1 replies rest more piece rest' r so.4 split parsed,
)

replies_on : (frames : List FrameValue) (replies : List ReplyFrameValue) (f : FrameValue) (r : ReplyFrameValue)
    → AreRepliesTo frames replies → IsReplyTo f r → AreRepliesTo (frames ++ f ∷ []) (replies ++ r ∷ [])
replies_on [] [] f r so one = (one, tt)
replies_on [] (q ∷ replies) f r so one = absurd so
replies_on (g ∷ frames) [] f r so one = absurd so
replies_on (g ∷ frames) (q ∷ replies) f r so one = (so.0, replies_on frames replies f r so.1 one)

stream_on : (frames : List FrameValue) (f : FrameValue) → stream_of frames ++ frame_bytes f ≡ stream_of (frames ++ f ∷ [])
stream_on frames f =
    sym (flat_map-append frame_bytes frames (f ∷ []) ∙ ap (λ (t : List ℕ). stream_of frames ++ t) (append-nil (frame_bytes f)))

text_on : (pr : Profile) (x : Explanations) (frames : List FrameValue) (replies : List ReplyFrameValue) (f : FrameValue) (r : ReplyFrameValue)
    → AreRepliesTo frames replies
    → session_text pr x frames replies ++ told_text pr x f r ≡ session_text pr x (frames ++ f ∷ []) (replies ++ r ∷ [])
text_on pr x [] [] f r so = sym (append-nil (told_text pr x f r))
text_on pr x [] (q ∷ replies) f r so = absurd so
text_on pr x (g ∷ frames) [] f r so = absurd so
text_on pr x (g ∷ frames) (q ∷ replies) f r so =
    append_assoc (told_text pr x g q) (session_text pr x frames replies) (told_text pr x f r)
    ∙ ap (λ (t : List ℕ). told_text pr x g q ++ t) (text_on pr x frames replies f r so.1)

-- one frame more
pub talks_on : (pr : Profile) (x : Explanations) (frames : List FrameValue) (f : FrameValue) (before middle after : Streams) (rest rest' : List ℕ)
    → Talks pr x frames before middle rest → Exchanges pr x f rest rest' middle after → Talks pr x (frames ++ f ∷ []) before after rest'
talks_on pr x frames f before middle after rest rest' so one = record {
  read = so.read ++ one.read;
  replies = so.replies ++ one.reply ∷ [];
  consumed = Consumes-trans _ _ _ _ _ so.consumed one.consumed;
  told = tells_on pr so.read so.replies rest one.read one.piece rest' one.reply so.told one.split one.parsed;
  answered = replies_on frames so.replies f one.reply so.answered one.answered;
  sent =
      subst (λ (b : List ℕ). Appends before.written after.written b) (stream_on frames f) (Appends-trans _ _ _ _ _ so.sent one.sent);
  lines =
      subst (λ (b : List ℕ). Appends before.shown after.shown b) (text_on pr x frames so.replies f one.reply so.answered)
      (Appends-trans _ _ _ _ _ so.lines one.line);
}

-- one frame and its reply, from what was read, taken and written for it
pub exchanged : (pr : Profile) (x : Explanations) (frame : FrameValue) (pending read read_buffer rest line0 line : List ℕ) (count : ℕ) (before after : Streams)
    → read_buffer ≡ pending ++ read → Consumes before.left after.left read → Answers pr x frame (parsed_reply pr read_buffer) count line0 line
    → count ≤ length read_buffer → rest ≡ drop count read_buffer → line0 ≡ [] → Appends before.written after.written (frame_bytes frame)
    → Appends before.shown after.shown line → Exchanges pr x frame pending rest before after
exchanged pr x frame pending read read_buffer rest line0 line count before after came took answer within cut none wrote put = record {
  read = read;
  reply = answer.0;
  piece = take count read_buffer;
  consumed = took;
  split = sym came ∙ sym (take-append-drop count read_buffer) ∙ ap (λ (l : List ℕ). take count read_buffer ++ l) (sym cut);
  parsed = ap (parsed_reply pr) (sym came) ∙ answer.1 ∙ ap (λ (n : ℕ). Complete answer.0 n) (sym (length-take-le count read_buffer within));
  answered = answer.2;
  sent = wrote;
  line =
      subst (λ (l : List ℕ). Appends before.shown after.shown l) (answer.3 ∙ ap (λ (l : List ℕ). l ++ told_text pr x frame answer.0) none) put;
}
