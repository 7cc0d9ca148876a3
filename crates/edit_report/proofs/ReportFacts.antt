-- Worked examples of tables.
use Rattle.std.proofs.Common.{◌≡◌, [], ◌∷◌, ◌++◌, refl, true, false}
use Rattle.std.specs.Prelude.{codes}
use Rattle.edit_report.specs.Table.{columns, headings, lines_text, underlines}

-- serde from 1.0 to 1.2
serde_table : lines_text (columns false) (headings ∷ underlines
    ∷ record {
      name = codes "serde";
      old = codes "1.0";
      compatible = codes "1.2.3";
      latest = codes "1.2.3";
      new = codes "1.2";
      note = [];
    } ∷ [])
    ≡ codes "name  old req compatible latest new req" ++ (10 ∷ (
    codes "====  ======= ========== ====== ======="
    ++ (10 ∷ (codes "serde 1.0     1.2.3      1.2.3  1.2    " ++ (10 ∷ [])))))
serde_table = refl

-- an entry from git, with its note
git_table : lines_text (columns true) (headings ∷ underlines
    ∷ record {
      name = codes "g";
      old = codes "-";
      compatible = codes "-";
      latest = codes "-";
      new = codes "-";
      note = codes "git";
    } ∷ [])
    ≡ codes "name old req compatible latest new req note" ++ (10 ∷ (
    codes "==== ======= ========== ====== ======= ===="
    ++ (10 ∷ (codes "g    -       -          -      -       git " ++ (10 ∷ [])))))
git_table = refl
