-- The decoded value of a basic string, by runs of bytes and escapes.
use Rattle.std.proofs.Common.{◌≡◌, ℕ, ◌+◌, ◌<◌, true, false, List, [], ◌∷◌, ◌++◌, length, take, drop, get_or, refl, sym, ap, subst, ◌∙◌, append_assoc, true≢false, arith}
use Rattle.std.specs.Prelude.{encode_utf8}
use Rattle.std.specs.List.{prefix_len, AllByRecursion}
use Rattle.std.specs.Str.{IsUtf8, IsCharBoundary}
use Rattle.std.proofs.lemmas.Bool.Decides.{nat_tests}
use Rattle.std.proofs.lemmas.List.{drop_at, append-nil, nil_from_length}
use Rattle.std.proofs.lemmas.Str.{IsCharBoundary-at_seam}
use Rattle.edit_syntax.specs.Characters.{quote, is_blank, is_basic_ch, is_unescaped, All}
use Rattle.edit_syntax.specs.Strings.{LineEnd, lf, crlf, line_end, Space, spaces, Piece, plain, letter, short, long, feed, fold, delimiter, piece, pieces, is_escape, IsBasicPiece, IsMultiPiece, begins_with_space, decoded_piece, decoded_pieces}
use Rattle.edit_syntax.specs.Decoding.{IsEscape, BeginsWithBackslash, IsFoldEnd, is_spacing}
use Rattle.edit_syntax.specs.Reading.{first}
use Rattle.edit_syntax.proofs.TokenLaws.{prefix_len_run}
use Rattle.edit_syntax.proofs.PutBefore.{piece_rest}
use Rattle.edit_syntax.proofs.DelimitedContents.{Ascii, utf8_behind}
use Rattle.edit_syntax.proofs.EscapeRuns.{AreLine, BeginsEscaped, run_behind, hexes_ascii, letter_ascii, blank_spacing, fold_spacing, spacings_ascii}

-- ---- one turn

escaped_bytes : (p : Piece) → BeginsWithBackslash p → IsMultiPiece p → Ascii (piece quote p [])
escaped_bytes (plain b) escaped fine = absurd escaped
escaped_bytes (letter c) escaped fine = (omega arith, (letter_ascii c fine, tt))
escaped_bytes (short digits) escaped fine = (omega arith, (omega arith, hexes_ascii digits fine.1))
escaped_bytes (long digits) escaped fine = (omega arith, (omega arith, hexes_ascii digits fine.1))
escaped_bytes (feed end) escaped fine = absurd escaped
escaped_bytes (fold ws e more) escaped fine =
    (omega arith, spacings_ascii (ws ++ line_end e (spaces more [])) (fold_spacing ws e more fine.0 fine.1))
escaped_bytes delimiter escaped fine = absurd escaped

-- a text may be cut behind an escape and behind a fold
behind_piece : (p : Piece) (rest bytes : List ℕ) (len : ℕ) → BeginsWithBackslash p → IsMultiPiece p
    → IsUtf8 bytes
    → bytes ≡ piece quote p rest → len ≡ length (piece quote p []) → IsCharBoundary bytes len
    × (drop len bytes ≡ rest)
behind_piece p rest bytes len escaped fine u spelled e =
    let whole = spelled ∙ piece_rest quote p rest in
    let v = utf8_behind (piece quote p []) rest (escaped_bytes p escaped fine) (subst IsUtf8 whole u) in (
      rw e (IsCharBoundary-at_seam bytes (piece quote p []) rest whole v),
      ap (drop len) whole ∙
          drop_at (piece quote p []) rest len (sym e),
    )

-- how long a fold is
pub fold_length : (ws : List ℕ) (e : LineEnd) (more : List Space) (rest bytes : List ℕ) (n : ℕ)
    → IsMultiPiece (fold ws e more) → is_spacing (first rest) ≡ false
    → bytes ≡ piece quote (fold ws e more) rest → n ≡ prefix_len is_spacing (drop 1 bytes)
    → 1 + n ≡ length (piece quote (fold ws e more) [])
fold_length ws e more rest bytes n fine stops spelled is =
    let run = ws ++ line_end e (spaces more []) in
    let whole : drop 1 bytes ≡ run ++ rest = ap (drop 1) (spelled ∙ piece_rest quote (fold ws e more) rest) in
    let k : n ≡ length run = is ∙ ap (prefix_len is_spacing) whole ∙
    prefix_len_run is_spacing run rest (fold_spacing ws e more fine.0 fine.1) stops in
    omega arith

fold_begins : (ws : List ℕ) (e : LineEnd) (more : List Space) (rest : List ℕ) → All is_blank ws
    → is_spacing (first (ws ++ line_end e (spaces more rest))) ≡ true
fold_begins [] lf more rest h = refl
fold_begins [] crlf more rest h = refl
fold_begins (w ∷ ws) e more rest h = blank_spacing w h.0

escape_alone : (c : ℕ) → is_escape c ≡ true → is_spacing c ≡ false
escape_alone c h = grind (arith, nat_tests)

-- behind its backslash white space or a newline comes in a fold alone
pub escaped_next : (p : Piece) (rest : List ℕ) → BeginsWithBackslash p → IsMultiPiece p
    → (is_spacing (get_or (piece quote p rest) 1 0) ≡ true → (ws : List ℕ) × (e : LineEnd)
    × (more : List Space) × (p ≡ fold ws e more))
    × (is_spacing (get_or (piece quote p rest) 1 0) ≡ false → IsEscape p × IsBasicPiece p)
escaped_next (plain b) rest escaped fine = absurd escaped
escaped_next (letter c) rest escaped fine =
    ((λ h. absurd (true≢false (sym h ∙ escape_alone c fine))), λ h. (tt, fine))
escaped_next (short digits) rest escaped fine = ((λ h. absurd (true≢false (sym h))), λ h. (tt, fine))
escaped_next (long digits) rest escaped fine = ((λ h. absurd (true≢false (sym h))), λ h. (tt, fine))
escaped_next (feed e) rest escaped fine = absurd escaped
escaped_next (fold ws e more) rest escaped fine =
    ((λ h. (ws, e, more, refl)), λ h. absurd (true≢false (sym (fold_begins ws e more rest fine.0) ∙ h)))
escaped_next delimiter rest escaped fine = absurd escaped

-- where no white space follows a fold
basic_alone : (b : ℕ) → is_basic_ch b ≡ true → is_blank b ≡ false → is_spacing b ≡ false
basic_alone b h other = grind (arith, nat_tests)

spacing_over : (ps : List Piece) → AllByRecursion IsMultiPiece ps → begins_with_space ps ≡ false
    → is_spacing (first (pieces quote ps [])) ≡ false
spacing_over [] h e = refl
spacing_over (plain b ∷ ps) h e = basic_alone b h.0 e
spacing_over (letter c ∷ ps) h e = refl
spacing_over (short digits ∷ ps) h e = refl
spacing_over (long digits ∷ ps) h e = refl
spacing_over (feed end ∷ ps) h e = absurd (true≢false e)
spacing_over (fold ws end more ∷ ps) h e = refl
spacing_over (delimiter ∷ ps) h e = refl

fold_stops : (p : Piece) (ps : List Piece) → AreLine (p ∷ ps) → IsFoldEnd p (first (pieces quote ps []))
    × AreLine ps
fold_stops (plain b) ps h = (tt, record { all = h.all.1; folds = h.folds })
fold_stops (letter c) ps h = (tt, record { all = h.all.1; folds = h.folds })
fold_stops (short digits) ps h = (tt, record { all = h.all.1; folds = h.folds })
fold_stops (long digits) ps h = (tt, record { all = h.all.1; folds = h.folds })
fold_stops (feed e) ps h = (tt, record { all = h.all.1; folds = h.folds })
fold_stops (fold ws e more) ps h =
    (spacing_over ps h.all.1 h.folds.0, record { all = h.all.1; folds = h.folds.1 })
fold_stops delimiter ps h = (tt, record { all = h.all.1; folds = h.folds })

-- what is still to be read says what is missing
pub record Left (ps : List Piece) (rest out : List ℕ) : Type 0 where
  pub left : List Piece
  pub line : AreLine left
  pub spelled : rest ≡ pieces quote left []
  pub says : out ++ decoded_pieces quote left ≡ decoded_pieces quote ps

-- what the function that takes a piece promises of it
abbrev pub Takes : List ℕ → List ℕ → List ℕ → ℕ → Type 0
Takes tail out new len = (p : Piece) (r : List ℕ) → BeginsWithBackslash p → IsMultiPiece p → IsFoldEnd p (first r)
    → tail ≡ piece quote p r → (new ≡ out ++ decoded_piece quote p) × (len ≡ length (piece quote p []))

piece_turn : (ps rs : List Piece) (tail out new next : List ℕ) (len : ℕ) → AreLine rs → BeginsEscaped rs
    → tail ≡ pieces quote rs [] → out ++ decoded_pieces quote rs ≡ decoded_pieces quote ps → IsUtf8 tail
    → 0 < length tail
    → Takes tail out new len → (IsCharBoundary tail len → next ≡ drop len tail) → Left ps next new
piece_turn ps [] tail out new next len line begins spelled says u some takes cut =
    absurd (omega (arith, ap length spelled))
piece_turn ps (p ∷ rs) tail out new next len line begins spelled same u some takes cut =
    let f = fold_stops p rs line in
    let a = takes p (pieces quote rs []) begins line.all.0 f.0 spelled in
    let b = behind_piece p (pieces quote rs []) tail len begins line.all.0 u spelled a.1 in
    record {
      left = rs;
      line = f.1;
      spelled = cut b.0 ∙ b.1;
      says = ap (λ (e : List ℕ). e ++ decoded_pieces quote rs) a.0 ∙ append_assoc out (decoded_piece quote p) (decoded_pieces quote rs) ∙
          same;
    }

run_turn : (ps : List Piece) (rest out run tail : List ℕ) (l : Left ps rest out)
    → run ≡ take (prefix_len is_unescaped rest) rest → tail ≡ drop (prefix_len is_unescaped rest) rest
    → (rs : List Piece) × AreLine rs × BeginsEscaped rs × (tail ≡ pieces quote rs [])
    × ((out ++ run) ++ decoded_pieces quote rs ≡ decoded_pieces quote ps)
run_turn ps rest out run tail l front back =
    let b = run_behind l.left l.line in
    let bytes = pieces quote l.left [] in
    let f : run ≡ take (prefix_len is_unescaped bytes) bytes = front ∙
    ap (λ (r : List ℕ). take (prefix_len is_unescaped r) r) l.spelled in
    let t : tail ≡ pieces quote b.0 [] = back ∙
    ap (λ (r : List ℕ). drop (prefix_len is_unescaped r) r) l.spelled ∙ b.1.rest in (
      b.0,
      b.1.line,
      b.1.begins,
      t,
      append_assoc out run (decoded_pieces quote b.0) ∙
          ap (λ (r : List ℕ). out ++ (r ++ decoded_pieces quote b.0)) f ∙ ap (λ (r : List ℕ). out ++ r) (sym b.1.says) ∙
          l.says,
    )

-- a run and an escape or a fold were read
pub turn : (ps : List Piece) (rest out run tail new next : List ℕ) (len : ℕ) → Left ps rest out
    → run ≡ take (prefix_len is_unescaped rest) rest → tail ≡ drop (prefix_len is_unescaped rest) rest
    → IsUtf8 tail → 0 < length tail
    → Takes tail (out ++ run) new len → (IsCharBoundary tail len → next ≡ drop len tail) → Left ps next new
turn ps rest out run tail new next len l front back u some takes cut =
    let r = run_turn ps rest out run tail l front back in
    piece_turn ps r.0 tail (out ++ run) new next len r.1 r.2 r.3 r.4 u some takes cut

last_says : (rs : List Piece) → BeginsEscaped rs → pieces quote rs [] ≡ [] → decoded_pieces quote rs ≡ []
last_says [] begins e = refl
last_says (plain b ∷ rs) begins e = absurd begins
last_says (letter c ∷ rs) begins e = absurd cc
last_says (short digits ∷ rs) begins e = absurd cc
last_says (long digits ∷ rs) begins e = absurd cc
last_says (feed end ∷ rs) begins e = absurd begins
last_says (fold ws end more ∷ rs) begins e = absurd cc
last_says (delimiter ∷ rs) begins e = absurd begins

-- the last run was read
pub done : (ps : List Piece) (rest out run tail : List ℕ) → Left ps rest out
    → run ≡ take (prefix_len is_unescaped rest) rest → tail ≡ drop (prefix_len is_unescaped rest) rest
    → length tail ≡ 0 → out ++ run ≡ decoded_pieces quote ps
done ps rest out run tail l front back over =
    let r = run_turn ps rest out run tail l front back in
    let none : decoded_pieces quote r.0 ≡ [] = last_says r.0 r.2 (sym r.3 ∙ nil_from_length tail over) in
    sym (append-nil (out ++ run)) ∙ ap (λ (t : List ℕ). (out ++ run) ++ t) (sym none) ∙ r.4

-- a fold was taken
pub fold_taken : (p : Piece) (rest bytes out : List ℕ) (n : ℕ) → BeginsWithBackslash p → IsMultiPiece p
    → IsFoldEnd p (first rest) → bytes ≡ piece quote p rest → is_spacing (get_or bytes 1 0) ≡ true
    → n ≡ prefix_len is_spacing (drop 1 bytes)
    → (out ≡ out ++ decoded_piece quote p) × (1 + n ≡ length (piece quote p []))
fold_taken p rest bytes out n escaped fine stops spelled here is =
    let f = (escaped_next p rest escaped fine).0 (rw spelled at here) in
    let q = fold f.0 f.1 f.2 in
    let fine2 : IsMultiPiece q = subst IsMultiPiece f.3 fine in
    let stops2 : IsFoldEnd q (first rest) = subst (λ (x : Piece). IsFoldEnd x (first rest)) f.3 stops in
    let spelled2 : bytes ≡ piece quote q rest = spelled ∙ ap (λ (x : Piece). piece quote x rest) f.3 in
    rw f.3 (sym (append-nil out), fold_length f.0 f.1 f.2 rest bytes n fine2 stops2 spelled2 is)

-- an escape was taken
pub escape_taken : (p : Piece) (rest bytes out new : List ℕ) (named n : ℕ) → BeginsWithBackslash p
    → IsMultiPiece p
    → bytes ≡ piece quote p rest → is_spacing (get_or bytes 1 0) ≡ false → new ≡ out ++ encode_utf8 named
    → (IsEscape p → IsBasicPiece p → (encode_utf8 named ≡ decoded_piece quote p) × (n ≡ length (piece quote p [])))
    → (new ≡ out ++ decoded_piece quote p) × (n ≡ length (piece quote p []))
escape_taken p rest bytes out new named n escaped fine spelled other pushed names =
    let e = (escaped_next p rest escaped fine).1 (rw spelled at other) in
    let a = names e.0 e.1 in
    (pushed ∙ ap (λ (b : List ℕ). out ++ b) a.0, a.1)
