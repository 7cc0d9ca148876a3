-- Reports byte by byte.
use Rattle.std.proofs.Common.{◌≡◌, ◌∙◌, ℕ, ◌+◌, ◌<◌, List, [], ◌∷◌, ◌++◌, Bool, ap, append_assoc, get_or, length, sym, take, Option, Result, Ok, Err, OnOk}
use Rattle.std.specs.Io.KnownBytes.{Appends, Keeps}
use Rattle.std.proofs.KnownBytes.{Appends-kept}
use Rattle.std.proofs.lemmas.List.{append-nil, take_more}
use Rattle.std.proofs.lemmas.List.Sums.{fold_more}
use Rattle.edit_terminal.specs.Report.{Held, held_after, next, report_text, written_at}

-- what is written of bytes, and one behind them
report_more : (wanted : Bool) (h : Held) (bytes : List ℕ) (b : ℕ)
    → report_text wanted h (bytes ++ b ∷ [])
    ≡ report_text wanted h bytes ++ written_at wanted (held_after h bytes) b
report_more wanted h [] b = append-nil (written_at wanted h b)
report_more wanted h (c ∷ bytes) b =
    ap (λ x. written_at wanted h c ++ x) (report_more wanted (next h c) bytes b)
    ∙ sym (append_assoc (written_at wanted h c) (report_text wanted (next h c) bytes)
    (written_at wanted (held_after (next h c) bytes) b))

-- what is written of the front of bytes, with one more
pub front_more : (wanted : Bool) (h : Held) (bytes : List ℕ) (i : ℕ) → i < length bytes
    → report_text wanted h (take (i + 1) bytes)
    ≡ report_text wanted h (take i bytes) ++ written_at wanted (held_after h (take i bytes)) (get_or bytes i 0)
front_more wanted h bytes i within =
    ap (report_text wanted h) (take_more bytes i 0 within)
    ∙ report_more wanted h (take i bytes) (get_or bytes i 0)

-- what is held after the front of bytes, with one more
pub held_more : (h : Held) (bytes : List ℕ) (i : ℕ) → i < length bytes
    → held_after h (take (i + 1) bytes) ≡ next (held_after h (take i bytes)) (get_or bytes i 0)
held_more h bytes i within = fold_more next h bytes i 0 within

-- what a stream has after a call that flushes it
pub flushed : {T E : Type 0} (a b c : Option (List ℕ)) (bytes : List ℕ) (r : Result T E) → Appends a b bytes
    → Keeps b c → OnOk r (Appends a c bytes)
flushed a b c bytes (Ok x) before stays = Appends-kept a b c bytes before stays
flushed a b c bytes (Err e) before stays = tt
