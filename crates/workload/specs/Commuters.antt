-- The persons of a grid: each goes to work and back.
use Rattle.std.specs.Prelude.{ℕ, ◌+◌, ◌-◌, ◌%◌, nat_eq, List, length, slice_index_or, if◌then◌else◌}
use Rattle.draws.specs.{Choices.below, Words.Source, Words.person_source, Words.word}
use Rattle.workload.specs.declared.{TheConstants.FIRST_LEAVING, TheConstants.LEAVING_SPAN, commuters.Commute.Commute, commuters.Commuter.Commuter}
use Rattle.workload.specs.declared.commuters.Commute.TheVariants as commute

-- of ten persons one goes by bus, one walks, and the others drive
abbrev pub commute_of : ℕ → Commute
commute_of person = if nat_eq (person % 10) 8 then commute.Bus else (if nat_eq (person % 10) 9 then commute.Walk else commute.Car)

-- the link that a word draws
abbrev pub link_drawn : List (ℕ × ℕ) → ℕ → ℕ × ℕ
link_drawn links word = slice_index_or links (below (length links) word) (0, 0)

-- the ends of the bus line's way, along the first row
abbrev pub bus_home : ℕ × ℕ
bus_home = (0, 1)

abbrev pub bus_work : ℕ → ℕ × ℕ
bus_work size = (size - 2, size - 1)

-- who goes by bus lives at its first stop and works at its last one; the others live and work on any links
abbrev pub home_of : List (ℕ × ℕ) → Commute → ℕ → ℕ × ℕ
home_of links commute.Bus word = bus_home
home_of links commute.Walk word = link_drawn links word
home_of links commute.Car word = link_drawn links word

abbrev pub work_of : ℕ → List (ℕ × ℕ) → Commute → ℕ → ℕ × ℕ
work_of size links commute.Bus word = bus_work size
work_of size links commute.Walk word = link_drawn links word
work_of size links commute.Car word = link_drawn links word

-- the words of a person
abbrev pub words_of : ℕ → ℕ → Source
words_of seed person = person_source seed 0 person

-- the second in which a word lets a person leave home, between 6 and 8 o'clock
abbrev pub leaving : ℕ → ℕ
leaving word = FIRST_LEAVING + below LEAVING_SPAN word

-- a person of a grid of this size with these links, by his words: home, work, and the second in which he leaves home
unfoldable pub commuter : ℕ → List (ℕ × ℕ) → ℕ → ℕ → Commuter
commuter size links seed person = record {
  home = home_of links (commute_of person) (word (words_of seed person) 0);
  work = work_of size links (commute_of person) (word (words_of seed person) 1);
  leaves = leaving (word (words_of seed person) 2);
  commute = commute_of person;
}
