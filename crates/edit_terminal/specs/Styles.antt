-- Styles of texts on a terminal (ECMA-48, 8.3.117, "SGR - SELECT GRAPHIC RENDITION").
use Rattle.std.specs.Prelude.{ℕ, List, [], ◌∷◌, ◌++◌, Bool, true, false, codes, if◌then◌else◌}
use Rattle.edit_terminal.specs.Shown.{terminal_chars}
use Rattle.edit_terminal.specs.declared.styles.Style.{Style}
use Rattle.edit_terminal.specs.declared.styles.Style.TheVariants.{Plain, Title, Status, Warning, Note, Failure, Change}

-- the style of a text without one
abbrev pub is_plain : Style → Bool
is_plain Plain = true
is_plain style = false

-- the parameters that begin a style: 1 is bold, 31 red, 32 green, 33 yellow, 36 cyan (own, after cargo)
abbrev pub parameters : Style → List ℕ
parameters Plain = []
parameters Title = codes "1"
parameters Status = codes "1;32"
parameters Warning = codes "1;33"
parameters Note = codes "1;36"
parameters Failure = codes "1;31"
parameters Change = codes "32"

-- characters between the sequence with these parameters and the one that ends all styles
abbrev pub enclosed : List ℕ → List ℕ → List ℕ
enclosed parameters cs =
    (27 ∷ codes "[") ++ (parameters ++ (codes "m" ++ (terminal_chars cs ++ (27 ∷ codes "[0m"))))

-- characters in a style, as they are written to a terminal
abbrev pub styled : Style → List ℕ → List ℕ
styled style cs = if is_plain style then terminal_chars cs else enclosed (parameters style) cs

-- the style, where styles are wanted
abbrev pub style_if : Bool → Style → Style
style_if wanted style = if wanted then style else Plain
