-- Sheets and their numbers: document 01's example, texts that break the form in one place each, texts that look broken and are not, scale lines, orders of predicates, and texts
-- with many requirements.
-- Assumes nothing.
use Rattle.std.specs.Prelude.{ℕ, List, [], ◌∷◌, ◌++◌, set, pos}
use Prim.Native.String.{String}
use Rattle.text.specs.Bytes.{bytes}
use Rattle.recordings.specs.declared.Range.TheVariants.{AtLeast}
use Rattle.recordings.specs.Card.{passed}
use Rattle.predicate_lines.specs.Form.{unset}
use Rattle.requirement_lines.specs.Form.{nowhere}
use Rattle.sheets.specs.Form.{SheetAnswer}

-- a text by its parts: the channels' line, scale lines, predicate lines, the step's and the drift's line, requirement lines, rows
abbrev pub parts : String → String → String → String → String → String → String → List ℕ
parts chan cs ps step drift req rows = bytes chan ++ bytes cs ++ bytes ps ++ bytes step ++ bytes drift ++ bytes req ++ bytes rows

-- document 01's sheet; p0 is "at least 5", and the requirement is `G[0,2]p0`
abbrev pub example : List ℕ
example =
    parts "chan=1\n" "c=0 scale=1\n" "p=0 ch=0 lo=5 hi=*\n" "step=1\n" "drift=2\n" "req=G[0,2]p0\n"
    "t=0 src=m v0=10\nt=1 src=m v0=11\nt=2 src=m v0=10\nt=3 src=m v0=9\nt=4 src=m v0=10\n"

abbrev pub contents : SheetAnswer
contents = record {
  number = 0;
  head = record { setup = record { channels = 1; scales = passed (1 ∷ []); predicates = set unset 0 (record { channel = 0; range = AtLeast (pos 5) }) }; step = 1; drift = 2 };
  count = 1;
  requirements = set nowhere 0 (record { from = 57; to = 65 });
  rows = 66;
}

-- no text, a blank line, CR LF, no last line feed; a key that is not due; a space too many; numbers out of their form or range; a predicate's number twice;
-- a row with a field too many, too few, of another channel or source; a requirement behind a row, and one that lacks its line feed, also where rows are unread
abbrev pub damaged : List (List ℕ)
damaged =
    parts "" "" "" "" "" "" ""
    ∷ parts "chan=1\n" "c=0 scale=1\n" "" "step=1\n" "drift=2\n" "" ""
    ∷ parts "chan=1\n" "c=0 scale=1\n" "" "step=1\n" "drift=2\n" "req=p0" ""
    ∷ parts "chan=1\n" "c=0 scale=1\n" "" "step=1\n" "drift=2\n" "req=p0\n" "\n"
    ∷ parts "chan=1\r\n" "c=0 scale=1\n" "" "step=1\n" "drift=2\n" "req=p0\n" ""
    ∷ parts "chan=1\n" "c=0 scale=1\n" "" "step=1\n" "drift=2\n" "req=p0\n" "t=0 src=m v0=1"
    ∷ parts "chan=1\n" "c=0 scale=1\n" "" "drift=2\n" "step=1\n" "req=p0\n" ""
    ∷ parts "chan=1\n" "c=0 scale=1\n" "" "step= 1\n" "drift=2\n" "req=p0\n" ""
    ∷ parts "chan=1\n" "c=0 scale=1\n" "" "step=01\n" "drift=2\n" "req=p0\n" ""
    ∷ parts "chan=1\n" "c=0 scale=1\n" "" "step=-1\n" "drift=2\n" "req=p0\n" ""
    ∷ parts "chan=1\n" "c=0 scale=1\n" "" "step=4294967296\n" "drift=2\n" "req=p0\n" ""
    ∷ parts "chan=1\n" "c=0 scale=1\n" "" "step=12345678901\n" "drift=2\n" "req=p0\n" ""
    ∷ parts "chan=1\n" "c=0 scale=1\n" "p=16 ch=0 lo=5 hi=*\n" "step=1\n" "drift=2\n" "req=p0\n" ""
    ∷ parts "chan=1\n" "c=0 scale=1\n" "p=0 ch=0 lo=5\n" "step=1\n" "drift=2\n" "req=p0\n" ""
    ∷ parts "chan=1\n" "c=0 scale=1\n" "p=0 ch=0 lo=-0 hi=*\n" "step=1\n" "drift=2\n" "req=p0\n" ""
    ∷ parts "chan=1\n" "c=0 scale=1\n" "p=0 ch=0 lo=2147483648 hi=*\n" "step=1\n" "drift=2\n" "req=p0\n" ""
    ∷ parts "chan=1\n" "c=0 scale=1\n" "p=0 ch=0 lo=* hi=-2147483648\n" "step=1\n" "drift=2\n" "req=p0\n" ""
    ∷ parts "chan=1\n" "c=0 scale=1\n" "p=0 ch=0 lo=* hi=*\np=0 ch=0 lo=1 hi=*\n" "step=1\n" "drift=2\n" "req=p0\n" ""
    ∷ parts "chan=1\n" "c=0 scale=1\n" "" "step=1\n" "drift=2\n" "req=p0\n" "t=0 src=m v0=1\nreq=p0\n"
    ∷ parts "chan=1\n" "c=0 scale=1\n" "" "step=1\n" "drift=2\n" "req=p0\nreq=p1" ""
    ∷ parts "chan=0\n" "" "" "step=1\n" "drift=2\n" "req=p0\nreq=p1" ""
    ∷ parts "chan=1\n" "c=0 scale=1\n" "" "step=1\n" "drift=2\n" "req=p0\n" "t=0 src=m v0=1 v1=2\n"
    ∷ parts "chan=2\n" "c=0 scale=1\nc=1 scale=1\n" "" "step=1\n" "drift=2\n" "req=p0\n" "t=0 src=m v0=1\n"
    ∷ parts "chan=2\n" "c=0 scale=1\nc=1 scale=1\n" "" "step=1\n" "drift=2\n" "req=p0\n" "t=0 src=m v1=1 v0=2\n"
    ∷ parts "chan=1\n" "c=0 scale=1\n" "" "step=1\n" "drift=2\n" "req=p0\n" "t=0 src=x v0=1\n"
    ∷ parts "chan=1\n" "c=0 scale=1\n" "" "step=1\n" "drift=2\n" "req=p0\n" "t=4294967296 src=f v0=1\n"
    ∷ []

-- ends that a later number judges; predicates with a gap between them, one free; an empty requirement, one with spaces, two; rows behind a channel count out of range, which are unread;
-- filled rows out of order and beyond the range of values
abbrev pub accepted : List (List ℕ)
accepted =
    example
    ∷ parts "chan=1\n" "c=0 scale=1\n" "" "step=0\n" "drift=4294967295\n" "req=\n" ""
    ∷ parts "chan=1\n" "c=0 scale=1\n" "p=2 ch=0 lo=* hi=*\np=15 ch=4294967295 lo=9 hi=-9\n" "step=1\n" "drift=2\n" "req= p0 \n" ""
    ∷ parts "chan=0\n" "" "" "step=1\n" "drift=2\n" "req=p0\n" "anything\r, no line feed"
    ∷ parts "chan=9\n" "" "" "step=1\n" "drift=2\n" "req=p0\nreq=p1\n" "unread\nreq=p2"
    ∷ parts "chan=1\n" "c=0 scale=1\n" "" "step=1\n" "drift=2\n" "req=p0\nreq=p1\n" "t=0 src=m v0=1\n"
    ∷ parts "chan=2\n" "c=0 scale=1\nc=1 scale=1\n" "" "step=1\n" "drift=2\n" "req=p0\n" "t=9 src=f v0=-2147483647 v1=0\nt=4294967295 src=f v0=7 v1=2147483647\nt=0 src=m v0=1 v1=-1\n"
    ∷ []

-- a text with these scale lines behind `chan=`
abbrev pub with_scales : String → String → List ℕ
with_scales chan cs = parts chan cs "" "step=1\n" "drift=2\n" "req=T\n" ""

-- a line for each channel of one, two and eight; none for 0 and 9 channels; scales that a later number judges
abbrev pub scaled : List (List ℕ)
scaled =
    with_scales "chan=1\n" "c=0 scale=1\n"
    ∷ with_scales "chan=2\n" "c=0 scale=7\nc=1 scale=1000\n"
    ∷ with_scales "chan=8\n" "c=0 scale=1\nc=1 scale=2\nc=2 scale=3\nc=3 scale=4\nc=4 scale=5\nc=5 scale=6\nc=6 scale=7\nc=7 scale=8\n"
    ∷ with_scales "chan=0\n" ""
    ∷ with_scales "chan=9\n" ""
    ∷ with_scales "chan=1\n" "c=0 scale=0\n"
    ∷ with_scales "chan=1\n" "c=0 scale=1001\n"
    ∷ with_scales "chan=1\n" "c=0 scale=4294967295\n"
    ∷ []

-- lines exchanged, the last, the first or all missing, one twice, one too many; a line where none is due; one behind the predicates;
-- numbers out of their form or range, a space too many, another key, no line feed
abbrev pub misscaled : List (List ℕ)
misscaled =
    with_scales "chan=2\n" "c=1 scale=1\nc=0 scale=1\n"
    ∷ with_scales "chan=2\n" "c=0 scale=1\n"
    ∷ with_scales "chan=2\n" "c=1 scale=1\n"
    ∷ with_scales "chan=2\n" ""
    ∷ with_scales "chan=2\n" "c=0 scale=1\nc=0 scale=1\n"
    ∷ with_scales "chan=2\n" "c=0 scale=1\nc=1 scale=1\nc=1 scale=1\n"
    ∷ with_scales "chan=2\n" "c=0 scale=1\nc=1 scale=1\nc=2 scale=1\n"
    ∷ with_scales "chan=0\n" "c=0 scale=1\n"
    ∷ with_scales "chan=9\n" "c=0 scale=1\n"
    ∷ with_scales "chan=1\n" "p=0 ch=0 lo=* hi=*\nc=0 scale=1\n"
    ∷ with_scales "chan=1\n" "c=0 scale=01\n"
    ∷ with_scales "chan=1\n" "c=0 scale=-1\n"
    ∷ with_scales "chan=1\n" "c=0 scale=\n"
    ∷ with_scales "chan=1\n" "c=0 scale=4294967296\n"
    ∷ with_scales "chan=1\n" "c=00 scale=1\n"
    ∷ with_scales "chan=1\n" "c=0  scale=1\n"
    ∷ with_scales "chan=1\n" "ch=0 scale=1\n"
    ∷ with_scales "chan=1\n" "c=0 scale=1"
    ∷ []

-- a text with a predicate's line for each of these numbers, one after the other
abbrev pub predicate_lines : List String → List ℕ
predicate_lines [] = []
predicate_lines (n ∷ ns) = bytes "p=" ++ bytes n ++ bytes " ch=0 lo=* hi=*\n" ++ predicate_lines ns

abbrev pub with_predicates : List String → List ℕ
with_predicates ns = bytes "chan=1\n" ++ bytes "c=0 scale=1\n" ++ predicate_lines ns ++ bytes "step=1\n" ++ bytes "drift=2\n" ++ bytes "req=T\n"

-- every number there is, then more
abbrev pub all_and : List String → List String
all_and ns = "0" ∷ "1" ∷ "2" ∷ "3" ∷ "4" ∷ "5" ∷ "6" ∷ "7" ∷ "8" ∷ "9" ∷ "10" ∷ "11" ∷ "12" ∷ "13" ∷ "14" ∷ "15" ∷ ns

-- rising: none, one, neighbours, gaps, all
abbrev pub rising : List (List String)
rising = [] ∷ ("15" ∷ []) ∷ ("0" ∷ "1" ∷ []) ∷ ("3" ∷ "7" ∷ "12" ∷ []) ∷ ("0" ∷ "15" ∷ []) ∷ all_and [] ∷ []

-- the other orders of three; 15 then 0; equal neighbours; equal ones with another between; a line behind all numbers
abbrev pub unordered : List (List String)
unordered =
    ("3" ∷ "12" ∷ "7" ∷ [])
    ∷ ("7" ∷ "3" ∷ "12" ∷ [])
    ∷ ("7" ∷ "12" ∷ "3" ∷ [])
    ∷ ("12" ∷ "3" ∷ "7" ∷ [])
    ∷ ("12" ∷ "7" ∷ "3" ∷ [])
    ∷ ("15" ∷ "0" ∷ [])
    ∷ ("0" ∷ "0" ∷ [])
    ∷ ("3" ∷ "7" ∷ "7" ∷ [])
    ∷ ("3" ∷ "7" ∷ "3" ∷ [])
    ∷ all_and ("15" ∷ [])
    ∷ all_and ("0" ∷ [])
    ∷ []

-- sixteen requirements, with more lines behind them
abbrev pub eight : String
eight = "req=p0\nreq=p1\nreq=p2\nreq=p3\nreq=p4\nreq=p5\nreq=p6\nreq=p7\n"

abbrev pub with_sixteen : String → String → String → String → List ℕ
with_sixteen chan cs more rows = bytes chan ++ bytes cs ++ bytes "step=1\n" ++ bytes "drift=2\n" ++ bytes eight ++ bytes eight ++ bytes more ++ bytes rows

-- sixteen `req=` lines; a seventeenth; one outside the grammar among seventeen; seventeen where rows are unread; seventeen and a row that breaks the form
abbrev pub crowded : List (List ℕ)
crowded =
    with_sixteen "chan=1\n" "c=0 scale=1\n" "" "t=0 src=m v0=1\n"
    ∷ with_sixteen "chan=1\n" "c=0 scale=1\n" "req=p0\n" "t=0 src=m v0=1\n"
    ∷ with_sixteen "chan=1\n" "c=0 scale=1\n" "req=)\n" "t=0 src=m v0=1\n"
    ∷ with_sixteen "chan=0\n" "" "req=p0\n" "t=0"
    ∷ with_sixteen "chan=1\n" "c=0 scale=1\n" "req=p0\n" "t=0\n"
    ∷ []

-- document 01's sheet with another third row
abbrev pub with_third : String → List ℕ
with_third row =
    parts "chan=1\n" "c=0 scale=1\n" "p=0 ch=0 lo=5 hi=*\n" "step=1\n" "drift=2\n" "req=G[0,2]p0\n" "t=0 src=m v0=10\nt=1 src=m v0=11\n"
    ++ bytes row ++ bytes "t=3 src=m v0=9\nt=4 src=m v0=10\n"

-- that row filled, and filled with another time, another value and other counts of digits
abbrev pub filled_row : String
filled_row = "t=2 src=f v0=10\n"

abbrev pub other_filled_row : String
other_filled_row = "t=40 src=f v0=-250\n"
