-- The collector of how often each kind of reply came.
use Rattle.std.specs.Prelude.{ℕ, ◌+◌, ◌-◌, List, [], ◌∷◌, ◌++◌, ◌==◌, ◌&&◌, nat_le, if◌then◌else◌, codes, decimal, replicate, slice_index, slice_set}
use Rattle.outside.specs.Counter.{raised}
use Rattle.outside.specs.Collecting.{Collecting}
use Rattle.outside.specs.declared.collector.Seen.{Seen}

-- twenty counts, of the kinds from 1 on, once an entry was seen
abbrev pub begun : List ℕ → List ℕ
begun [] = replicate 20 0
begun (n ∷ counts) = n ∷ counts

-- the count of a kind goes up
abbrev pub with_kind : ℕ → List ℕ → List ℕ
with_kind kind counts = if nat_le 1 kind && nat_le kind 20 then slice_set counts (kind - 1) (raised (slice_index counts (kind - 1))) else counts

abbrev pub counted : Seen → List ℕ → List ℕ
counted e content = with_kind e.reply (begun content)

abbrev pub count_line : ℕ → ℕ → List ℕ
count_line kind n = decimal kind ++ 0x20 ∷ decimal n ++ 0x0A ∷ []

-- a line for each count that isn't 0, from this kind on
abbrev pub count_lines : ℕ → List ℕ → List ℕ
count_lines kind [] = []
count_lines kind (n ∷ counts) = (if n == 0 then [] else count_line kind n) ++ count_lines (kind + 1) counts

abbrev pub counts_text : List ℕ → List ℕ
counts_text content = codes "COUNTS\n" ++ count_lines 1 content

-- the collector with this content
abbrev pub counts : List ℕ → Collecting
counts content = record { content = content; step = counted; form = counts_text }
