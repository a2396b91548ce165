-- A text that is cut into tokens: no line of it begins with a percent sign, and with a line feed after it it
-- has the same tokens.
use Rattle.std.proofs.Common.{◌≡◌, ℕ, ◌+◌, ◌-◌, ◌<◌, ◌≤◌, ◌⊎◌, inl, inr, true, List, [], ◌∷◌, length, take, drop}
use Rattle.std.proofs.Common.{get_or, slice_range, refl, sym, ap, ◌∙◌, subst, arith, append-nil, length-append}
use Rattle.std.proofs.lemmas.Bool.{cases_lt}
use Rattle.std.proofs.lemmas.List.{drop-append-le, get_or_at, get_or_append_left, length-drop, take-append-le}
use Rattle.std.specs.List.{count_by}
use Rattle.std.specs.Prelude.{◌==◌, EachIndex}
use Rattle.pb_code.specs.Whole.{Code, ProcessLabels}
use Rattle.pb_codegen.specs.Compiled.{IsCompiled}
use Rattle.pb_codegen.specs.Numbered.{IsReadAs, Spells}
use Rattle.pb_lexer.proofs.Bytes.{no_visible_feed, slice_here, slice_length}
use Rattle.pb_lexer.proofs.Cuttings.{token_starts}
use Rattle.pb_lexer.proofs.Forms.{form_visible}
use Rattle.pb_lexer.proofs.Spellings.{starts}
use Rattle.pb_lexer.specs.Cutting.{AreTokensOf, Cut, Cuts, IsComment, IsToken, Piece, blank, comment, line_at, more}
use Rattle.pb_lexer.specs.Cutting.{nothing, token}
use Rattle.pb_lexer.specs.Forms.{Form, is_allowed, is_blank}
use Rattle.pb_lexer.specs.Tokens.{Lexeme, Token}
use Rattle.pb_base.specs.Lines.{line}
use Rattle.pb_accept.specs.RunTexts.{IsEnded}

-- ---- no line begins with a percent sign

-- a line begins at this place, with a percent sign
abbrev pub PercentLine : List ℕ → ℕ → Type 0
PercentLine text at = (get_or text at 0 ≡ 37) × ((at ≡ 0) ⊎ (get_or text (at - 1) 0 ≡ 10))

percent_no_blank : is_blank 37 ≡ true → ⊥
percent_no_blank h = cc

percent_no_start : starts 37 ≡ true → ⊥
percent_no_start h = cc

-- no token or comment begins with a percent sign, and it is not a blank
no_percent_first : {text : List ℕ} {at end : ℕ} {new : List Token} → Piece text at end new → get_or text at 0 ≡ 37 → ⊥
no_percent_first (blank lt b e) is = percent_no_blank (rw is at b)
no_percent_first (comment c) is = let slash = c.slash in omega (arith, slash, is)
no_percent_first (token t) is = let first = token_starts t in percent_no_start (rw is at first)

-- a line feed is at most the last byte of a piece
no_feed_within : {text : List ℕ} {at end : ℕ} {new : List Token} → Piece text at end new → (k : ℕ) → at ≤ k → k + 1 < end
    → get_or text k 0 ≡ 10 → ⊥
no_feed_within (blank lt b e) k le less is = omega (arith, e, le, less)
no_feed_within (comment c) k le less is = c.one_line k le (omega (arith, less)) is
no_feed_within {text = text} {at = at} {end = end} (token t) k le less is =
    let inside : k < end = omega (arith, less) in
    let here = slice_here text at end k le inside in
    let visible = form_visible t.form (k - at) (omega (arith, slice_length text at end t.within, le, inside)) in
    no_visible_feed (rw (here, is) at visible)

no_percent_line_in : {text : List ℕ} {at end : ℕ} {new : List Token} → Piece text at end new → (k : ℕ) → at ≤ k → k < end
    → PercentLine text k → ⊥
no_percent_line_in {text = text} {at = at} piece k le less (percent, begins) = elim (cases_lt at k) [
  | inr not_behind ↦
      let first : k ≡ at = omega (arith, le, not_behind) in
      no_percent_first piece (ap (λ (i : ℕ). get_or text i 0) (sym first) ∙ percent)
  | inl behind ↦ elim begins [
    | inl start ↦ absurd (omega (arith, start, behind))
    | inr feed ↦ no_feed_within piece (k - 1) (omega (arith, behind)) (omega (arith, behind, less)) feed
  ]
]

no_percent_line_up_to : {text : List ℕ} {end : ℕ} {ts : List Token} → Cut text end ts → (k : ℕ) → k < end → PercentLine text k → ⊥
no_percent_line_up_to nothing k less is = absurd (omega (arith, less))
no_percent_line_up_to (more {at = at} cut piece) k less is = elim (cases_lt k at) [
  | inl before ↦ no_percent_line_up_to cut k before is
  | inr le ↦ no_percent_line_in piece k le less is
]

pub no_percent_line : (text : List ℕ) (ts : List Token) → Cuts text ts → (k : ℕ) → k < length text → PercentLine text k → ⊥
no_percent_line text ts cuts = no_percent_line_up_to cuts

-- ---- with a line feed after it

module _ (text : List ℕ) where
  longer : length (line text) ≡ length text + 1
  longer = length-append text (10 ∷ [])

  same_byte : (k : ℕ) → k < length text → get_or (line text) k 0 ≡ get_or text k 0
  same_byte k less = get_or_append_left text (10 ∷ []) 0 k less

  last_byte : get_or (line text) (length text) 0 ≡ 10
  last_byte = get_or_at text 10 [] 0 (length text) refl

  same_slice : (at end : ℕ) → at ≤ end → end ≤ length text → slice_range (line text) at end ≡ slice_range text at end
  same_slice at end le within =
      ap (λ (xs : List ℕ). take (end - at) xs) (drop-append-le at text (10 ∷ []) (omega (arith, le, within)))
      ∙ take-append-le (end - at) (drop at text) (10 ∷ []) (omega (arith, length-drop at text, le, within))

  same_line : (at : ℕ) → at ≤ length text → line_at (line text) at ≡ line_at text at
  same_line at le = ap (λ (xs : List ℕ). count_by (λ b. b == 10) xs + 1) (take-append-le at text (10 ∷ []) le)

  -- no token ends in the line feed
  no_longer : (at further : ℕ) (l : Lexeme) → at ≤ length text → length text < further → further ≤ length (line text)
      → Form (slice_range (line text) at further) l → ⊥
  no_longer at further l le less within form =
      let here = slice_here (line text) at further (length text) le less in
      let visible = form_visible form (length text - at) (omega (arith, slice_length (line text) at further within, le, less)) in
      no_visible_feed (rw (here, last_byte) at visible)

  same_token : {at end : ℕ} {t : Token} → IsToken text at end t → IsToken (line text) at end t
  same_token {at = at} {end = end} {t = t} is =
      let before = is.before_end in
      let within = is.within in
      let slice = same_slice at end (omega (arith, before)) within in record {
        before_end = before;
        within = omega (arith, within, longer);
        form = subst (λ (xs : List ℕ). Form xs t.lexeme) (sym slice) is.form;
        longest = λ further l less le form. elim (cases_lt (length text) further) [
          | inl past ↦ no_longer at further l (omega (arith, before, within)) past le form
          | inr inside ↦ is.longest further l less inside
              (subst (λ (xs : List ℕ). Form xs l) (same_slice at further (omega (arith, before, less)) inside) form)
        ];
        text_is = is.text_is ∙ sym slice;
        start_is = is.start_is;
        end_is = is.end_is;
        line_is = is.line_is ∙ sym (same_line at (omega (arith, before, within)));
      }

  same_comment : {at end : ℕ} → IsComment text at end → IsComment (line text) at end
  same_comment {at = at} {end = end} is =
      let long = is.long in
      let within = is.within in record {
        long = long;
        within = omega (arith, within, longer);
        slash = same_byte at (omega (arith, long, within)) ∙ is.slash;
        another = same_byte (at + 1) (omega (arith, long, within)) ∙ is.another;
        one_line = λ k le less feed. is.one_line k le less (sym (same_byte k (omega (arith, less, within))) ∙ feed);
        ends = elim is.ends [
          | inl all ↦ inr (ap (λ (k : ℕ). get_or (line text) k 0) all ∙ last_byte)
          | inr feed ↦ elim (cases_lt end (length text)) [
            | inl inside ↦ inr (same_byte end inside ∙ feed)
            | inr past ↦
                let all : end ≡ length text = omega (arith, within, past) in
                inr (ap (λ (k : ℕ). get_or (line text) k 0) all ∙ last_byte)
          ]
        ];
      }

  same_piece : {at end : ℕ} {new : List Token} → Piece text at end new → Piece (line text) at end new
  same_piece {at = at} (blank less b e) = blank (omega (arith, less, longer)) (ap is_blank (same_byte at less) ∙ b) e
  same_piece (comment is) = comment (same_comment is)
  same_piece (token is) = token (same_token is)

  same_cut : {end : ℕ} {ts : List Token} → Cut text end ts → Cut (line text) end ts
  same_cut nothing = nothing
  same_cut (more cut piece) = more (same_cut cut) (same_piece piece)

  pub same_tokens : (ts : List Token) → Cuts text ts → Cuts (line text) ts
  same_tokens ts cuts =
      let feed : Piece (line text) (length text) (length text + 1) [] =
      blank (omega (arith, longer)) (rw last_byte refl) refl in
      subst (λ (end : ℕ). Cut (line text) end ts) (sym longer)
      (subst (λ (us : List Token). Cut (line text) (length text + 1) us) (append-nil ts) (more (same_cut cuts) feed))

  all_allowed : EachIndex text (λ k. is_allowed (get_or text k 0) ≡ true)
      → EachIndex (line text) (λ k. is_allowed (get_or (line text) k 0) ≡ true)
  all_allowed each k less = elim (cases_lt k (length text)) [
    | inl inside ↦ ap is_allowed (same_byte k inside) ∙ each k inside
    | inr past ↦
        let all : k ≡ length text = omega (arith, longer, less, past) in
        ap (λ (i : ℕ). is_allowed (get_or (line text) i 0)) all ∙ ap is_allowed last_byte
  ]

  still_compiled : (code : Code) (labels : List ProcessLabels) → length (line text) ≤ 65536 → IsCompiled text code labels
      → IsCompiled (line text) code labels
  still_compiled code labels short compiled =
      let spelled = compiled.numbered.spelled in
      let tokens : AreTokensOf (line text) spelled.tokens = record {
        short = short;
        allowed = all_allowed spelled.cut.allowed;
        cuts = same_tokens spelled.tokens spelled.cut.cuts;
        fit = spelled.cut.fit;
      } in
      let spells : Spells (line text) compiled.numbered.tree = record {
        tokens = spelled.tokens;
        cut = tokens;
        flat = spelled.flat;
        read = spelled.read;
        limits = spelled.limits;
      } in
      let numbered : IsReadAs (line text) compiled.program code.claims = record {
        tree = compiled.numbered.tree;
        spelled = spells;
        numbered = compiled.numbered.numbered;
        claimed = compiled.numbered.claimed;
      } in record {
        program = compiled.program;
        numbered = numbered;
        generated = compiled.generated;
        names = compiled.names;
        enough = compiled.enough;
        same = compiled.same;
        labelled = compiled.labelled;
        lines = compiled.lines;
        behaves = compiled.behaves;
        keeps = compiled.keeps;
        fit = compiled.fit;
      }

-- ---- a text that is ended by a line feed

pub ended_is_cut : (text ended : List ℕ) (ts : List Token) → IsEnded text ended → Cuts text ts → Cuts ended ts
ended_is_cut text ended ts (inl (ends, same)) cuts = subst (λ (t : List ℕ). Cuts t ts) (sym same) cuts
ended_is_cut text ended ts (inr (not_ended, same)) cuts = subst (λ (t : List ℕ). Cuts t ts) (sym same) (same_tokens text ts cuts)

-- its code is the same, unless the line feed made it too long
pub ended_is_compiled : (text ended : List ℕ) (code : Code) (labels : List ProcessLabels) → IsEnded text ended
    → length ended ≤ 65536 → IsCompiled text code labels → IsCompiled ended code labels
ended_is_compiled text ended code labels (inl (ends, same)) short compiled =
    subst (λ (t : List ℕ). IsCompiled t code labels) (sym same) compiled
ended_is_compiled text ended code labels (inr (not_ended, same)) short compiled =
    subst (λ (t : List ℕ). IsCompiled t code labels) (sym same)
    (still_compiled text code labels (subst (λ (t : List ℕ). length t ≤ 65536) same short) compiled)
