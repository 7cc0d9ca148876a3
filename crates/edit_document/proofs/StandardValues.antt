-- Examples of TOML 1.0.0 with their trees: numbers, booleans, dates and arrays.
use Rattle.std.proofs.Common.{[], ◌∷◌, false, refl}
use Rattle.std.specs.Prelude.{codes}
use Rattle.edit_tree.specs.Assertions.{key, index}
use Rattle.edit_tree.specs.Tree.{string, truth, whole, fractional, moment, static_array}
use Rattle.edit_document.proofs.FromReader.{Shows, IsNone, shows, is_none}
use Rattle.edit_tree.proofs.OnTexts.{on_texts}

-- "Integer"
pub integers : Shows (codes "int1 = +99\nint2 = 42\nint3 = 0\nint4 = -17")
    (key (codes "int1") ∷ []) (whole (codes "+99"))
unfolding on_texts
integers = shows (codes "int1 = +99\nint2 = 42\nint3 = 0\nint4 = -17") (key (codes "int1") ∷ [])
    (whole (codes "+99")) refl refl

-- "Integer": underscores
pub integers_with_underscores : Shows
    (codes "int5 = 1_000\nint6 = 5_349_221\nint7 = 53_49_221  # Indian number system grouping")
    (key (codes "int7") ∷ []) (whole (codes "53_49_221"))
unfolding on_texts
integers_with_underscores =
    shows (codes "int5 = 1_000\nint6 = 5_349_221\nint7 = 53_49_221  # Indian number system grouping")
    (key (codes "int7") ∷ []) (whole (codes "53_49_221")) refl refl

-- "Integer": hexadecimal
pub hexadecimal : Shows (codes "hex1 = 0xDEADBEEF\nhex2 = 0xdeadbeef\nhex3 = 0xdead_beef")
    (key (codes "hex3") ∷ []) (whole (codes "0xdead_beef"))
unfolding on_texts
hexadecimal = shows (codes "hex1 = 0xDEADBEEF\nhex2 = 0xdeadbeef\nhex3 = 0xdead_beef")
    (key (codes "hex3") ∷ []) (whole (codes "0xdead_beef")) refl refl

-- "Integer": octal
pub octal : Shows (codes "oct1 = 0o01234567\noct2 = 0o755 # useful for Unix file permissions")
    (key (codes "oct2") ∷ []) (whole (codes "0o755"))
unfolding on_texts
octal = shows (codes "oct1 = 0o01234567\noct2 = 0o755 # useful for Unix file permissions")
    (key (codes "oct2") ∷ []) (whole (codes "0o755")) refl refl

-- "Integer": binary
pub binary : Shows (codes "bin1 = 0b11010110") (key (codes "bin1") ∷ []) (whole (codes "0b11010110"))
unfolding on_texts
binary = shows (codes "bin1 = 0b11010110") (key (codes "bin1") ∷ []) (whole (codes "0b11010110")) refl refl

-- "Float": fractional
pub fractions : Shows (codes "flt1 = +1.0\nflt2 = 3.1415\nflt3 = -0.01")
    (key (codes "flt3") ∷ []) (fractional (codes "-0.01"))
unfolding on_texts
fractions = shows (codes "flt1 = +1.0\nflt2 = 3.1415\nflt3 = -0.01") (key (codes "flt3") ∷ [])
    (fractional (codes "-0.01")) refl refl

-- "Float": an exponent
pub exponents : Shows (codes "flt4 = 5e+22\nflt5 = 1e06\nflt6 = -2E-2")
    (key (codes "flt5") ∷ []) (fractional (codes "1e06"))
unfolding on_texts
exponents = shows (codes "flt4 = 5e+22\nflt5 = 1e06\nflt6 = -2E-2") (key (codes "flt5") ∷ [])
    (fractional (codes "1e06")) refl refl

-- "Float": both
pub fraction_and_exponent : Shows (codes "flt7 = 6.626e-34")
    (key (codes "flt7") ∷ []) (fractional (codes "6.626e-34"))
unfolding on_texts
fraction_and_exponent = shows (codes "flt7 = 6.626e-34") (key (codes "flt7") ∷ [])
    (fractional (codes "6.626e-34")) refl refl

-- "Float": underscores
pub floats_with_underscores : Shows (codes "flt8 = 224_617.445_991_228")
    (key (codes "flt8") ∷ []) (fractional (codes "224_617.445_991_228"))
unfolding on_texts
floats_with_underscores = shows (codes "flt8 = 224_617.445_991_228") (key (codes "flt8") ∷ [])
    (fractional (codes "224_617.445_991_228")) refl refl

-- "Float": nothing before the point
pub nothing_before_the_point : IsNone (codes "# INVALID FLOATS\ninvalid_float_1 = .7")
unfolding on_texts
nothing_before_the_point = is_none (codes "# INVALID FLOATS\ninvalid_float_1 = .7") refl refl

-- "Float": nothing behind it
pub nothing_behind_the_point : IsNone (codes "# INVALID FLOATS\ninvalid_float_2 = 7.")
unfolding on_texts
nothing_behind_the_point = is_none (codes "# INVALID FLOATS\ninvalid_float_2 = 7.") refl refl

-- "Float": nothing behind it but an exponent
pub exponent_behind_the_point : IsNone (codes "# INVALID FLOATS\ninvalid_float_3 = 3.e+20")
unfolding on_texts
exponent_behind_the_point = is_none (codes "# INVALID FLOATS\ninvalid_float_3 = 3.e+20") refl refl

-- "Float": special values
pub special_floats : Shows
    (codes "sf1 = inf  # positive infinity\nsf2 = +inf # positive infinity\nsf3 = -inf # negative infinity\nsf4 = nan\nsf5 = +nan\nsf6 = -nan")
    (key (codes "sf3") ∷ []) (fractional (codes "-inf"))
unfolding on_texts
special_floats = shows
    (codes "sf1 = inf  # positive infinity\nsf2 = +inf # positive infinity\nsf3 = -inf # negative infinity\nsf4 = nan\nsf5 = +nan\nsf6 = -nan") (key (codes "sf3") ∷ []) (fractional (codes "-inf")) refl refl

-- "Boolean"
pub booleans : Shows (codes "bool1 = true\nbool2 = false") (key (codes "bool2") ∷ []) (truth false)
unfolding on_texts
booleans = shows (codes "bool1 = true\nbool2 = false") (key (codes "bool2") ∷ []) (truth false) refl refl

-- "Offset Date-Time"
pub offset_date_times : Shows
    (codes "odt1 = 1979-05-27T07:32:00Z\nodt2 = 1979-05-27T00:32:00-07:00\nodt3 = 1979-05-27T00:32:00.999999-07:00")
    (key (codes "odt3") ∷ []) (moment (codes "1979-05-27T00:32:00.999999-07:00"))
unfolding on_texts
offset_date_times = shows
    (codes "odt1 = 1979-05-27T07:32:00Z\nodt2 = 1979-05-27T00:32:00-07:00\nodt3 = 1979-05-27T00:32:00.999999-07:00") (key (codes "odt3") ∷ []) (moment (codes "1979-05-27T00:32:00.999999-07:00")) refl refl

-- "Offset Date-Time": a space for the T
pub date_and_time_apart : Shows (codes "odt4 = 1979-05-27 07:32:00Z")
    (key (codes "odt4") ∷ []) (moment (codes "1979-05-27 07:32:00Z"))
unfolding on_texts
date_and_time_apart = shows (codes "odt4 = 1979-05-27 07:32:00Z") (key (codes "odt4") ∷ [])
    (moment (codes "1979-05-27 07:32:00Z")) refl refl

-- "Local Date-Time"
pub local_date_times : Shows (codes "ldt1 = 1979-05-27T07:32:00\nldt2 = 1979-05-27T00:32:00.999999")
    (key (codes "ldt2") ∷ []) (moment (codes "1979-05-27T00:32:00.999999"))
unfolding on_texts
local_date_times = shows (codes "ldt1 = 1979-05-27T07:32:00\nldt2 = 1979-05-27T00:32:00.999999")
    (key (codes "ldt2") ∷ []) (moment (codes "1979-05-27T00:32:00.999999")) refl refl

-- "Local Date"
pub local_date : Shows (codes "ld1 = 1979-05-27") (key (codes "ld1") ∷ []) (moment (codes "1979-05-27"))
unfolding on_texts
local_date = shows (codes "ld1 = 1979-05-27") (key (codes "ld1") ∷ []) (moment (codes "1979-05-27")) refl refl

-- "Local Time"
pub local_times : Shows (codes "lt1 = 07:32:00\nlt2 = 00:32:00.999999")
    (key (codes "lt1") ∷ []) (moment (codes "07:32:00"))
unfolding on_texts
local_times = shows (codes "lt1 = 07:32:00\nlt2 = 00:32:00.999999") (key (codes "lt1") ∷ [])
    (moment (codes "07:32:00")) refl refl

-- "Array"
pub array_of_integers : Shows (codes "integers = [ 1, 2, 3 ]\ncolors = [ \"red\", \"yellow\", \"green\" ]")
    (key (codes "integers") ∷ []) (static_array 3)
unfolding on_texts
array_of_integers = shows (codes "integers = [ 1, 2, 3 ]\ncolors = [ \"red\", \"yellow\", \"green\" ]")
    (key (codes "integers") ∷ []) (static_array 3) refl refl

-- "Array": in one another
pub arrays_in_arrays : Shows (codes "nested_arrays_of_ints = [ [ 1, 2 ], [3, 4, 5] ]")
    (key (codes "nested_arrays_of_ints") ∷ index 1 ∷ index 2 ∷ []) (whole (codes "5"))
unfolding on_texts
arrays_in_arrays = shows (codes "nested_arrays_of_ints = [ [ 1, 2 ], [3, 4, 5] ]")
    (key (codes "nested_arrays_of_ints") ∷ index 1 ∷ index 2 ∷ []) (whole (codes "5")) refl refl

-- "Array": of mixed types
pub mixed_array : Shows
    (codes "numbers = [ 0.1, 0.2, 0.5, 1, 2, 5 ]\ncontributors = [\n  \"Foo Bar <foo@example.com>\",\n  { name = \"Baz Qux\", email = \"bazqux@example.com\", url = \"https://example.com/bazqux\" }\n]")
    (key (codes "contributors") ∷ index 1 ∷ key (codes "name") ∷ []) (string (codes "Baz Qux"))
unfolding on_texts
mixed_array = shows (codes
    "numbers = [ 0.1, 0.2, 0.5, 1, 2, 5 ]\ncontributors = [\n  \"Foo Bar <foo@example.com>\",\n  { name = \"Baz Qux\", email = \"bazqux@example.com\", url = \"https://example.com/bazqux\" }\n]") (key (codes "contributors") ∷ index 1 ∷ key (codes "name") ∷ []) (string (codes "Baz Qux")) refl refl

-- "Array": over several lines, with a comma at the end
pub array_over_lines : Shows
    (codes "integers2 = [\n  1, 2, 3\n]\n\nintegers3 = [\n  1,\n  2, # this is ok\n]")
    (key (codes "integers3") ∷ []) (static_array 2)
unfolding on_texts
array_over_lines = shows (codes "integers2 = [\n  1, 2, 3\n]\n\nintegers3 = [\n  1,\n  2, # this is ok\n]")
    (key (codes "integers3") ∷ []) (static_array 2) refl refl

-- "Integer": a leading zero
pub leading_zero : IsNone (codes "n = 01")
unfolding on_texts
leading_zero = is_none (codes "n = 01") refl refl

-- "Integer": a sign before a prefix
pub signed_prefix : IsNone (codes "n = +0x1")
unfolding on_texts
signed_prefix = is_none (codes "n = +0x1") refl refl

-- "Integer": two underscores
pub two_underscores : IsNone (codes "n = 1__0")
unfolding on_texts
two_underscores = is_none (codes "n = 1__0") refl refl

-- "Local Date": a month of one digit
pub short_month : IsNone (codes "d = 1979-5-27")
unfolding on_texts
short_month = is_none (codes "d = 1979-5-27") refl refl

-- "Offset Date-Time": an offset of one digit
pub short_offset : IsNone (codes "d = 1979-05-27T07:32:00+7")
unfolding on_texts
short_offset = is_none (codes "d = 1979-05-27T07:32:00+7") refl refl

-- "Array": a comma alone
pub comma_alone : IsNone (codes "a = [,]")
unfolding on_texts
comma_alone = is_none (codes "a = [,]") refl refl

-- "Array": no comma
pub no_comma : IsNone (codes "a = [1 2]")
unfolding on_texts
no_comma = is_none (codes "a = [1 2]") refl refl

-- "Array": two commas
pub two_commas : IsNone (codes "a = [1,,2]")
unfolding on_texts
two_commas = is_none (codes "a = [1,,2]") refl refl

-- "Array": no end
pub no_end : IsNone (codes "a = [")
unfolding on_texts
no_end = is_none (codes "a = [") refl refl
