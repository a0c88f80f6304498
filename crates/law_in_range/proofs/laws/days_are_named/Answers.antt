use Rattle.traffic.proofs.Common.{All-from_recursion, flat_map, told, stranded}
use Rattle.town.specs.Views.{setup}
use Rattle.law_in_range.proofs.{Naming.keyed_named, Naming.told_fit, Seconds.day_named, Towns.town_fit, Towns.book_of, Travellers.stranded_fit}
use Rattle.law_in_range.specs.Setups.{counts_in}
use Rattle.law_in_range.proofs.laws.days_are_named.Goals as goal

pub returns : goal.returns
returns c = record {
  moves = λ z book t code n index moves b h. All-from_recursion _ _ (keyed_named z book t code n index (flat_map told moves) b (told_fit z moves h));
  stranded = λ z book S t code i index W b f h lt. All-from_recursion _ _ (keyed_named z book t code i index (stranded S W i) b (stranded_fit z S W i f h lt));
  day = λ z book S b f. All-from_recursion _ _ (day_named z book S b f);
  towns = λ d h e. All-from_recursion _ _ (day_named (counts_in d) d.town.now.book (setup d) (book_of d e) (town_fit d h));
}
