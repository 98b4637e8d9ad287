use Rattle.std.proofs.Common.{[], ◌∷◌}
use Rattle.sml_tree.specs.Content.{item_content}
use Rattle.sml_read_parts.specs.Counts.{file_part}
use Rattle.sml_read_parts.proofs.Found.{found_front, found_room}
use Rattle.sml_read.proofs.item.next_item.Goals as goal

pub returns-in-Some-Class-clause-next : goal.returns-in-Some-Class-clause-next
returns-in-Some-Class-clause-next g c =
    found_front (file_part c.args.counts.now) (file_part c.class.new.counts) (λ i v. item_content i ∷ v) [] c.class.result c.as_some.result c.args.reader.now c.class.new.reader c.as_some.ensures c.class.ensures.next

pub returns-in-Some-Object-clause-next : goal.returns-in-Some-Object-clause-next
returns-in-Some-Object-clause-next g c =
    found_front (file_part c.args.counts.now) (file_part c.object.new.counts) (λ i v. item_content i ∷ v) [] c.object.result c.as_some-in-Some-Object.result c.args.reader.now c.object.new.self c.as_some-in-Some-Object.ensures c.object.ensures.next

pub returns-in-Some-ObjectSet-clause-next : goal.returns-in-Some-ObjectSet-clause-next
returns-in-Some-ObjectSet-clause-next g c =
    found_front (file_part c.args.counts.now) (file_part c.set.new.counts) (λ i v. item_content i ∷ v) [] c.set.result c.as_some-in-Some-ObjectSet.result c.args.reader.now c.set.new.self c.as_some-in-Some-ObjectSet.ensures c.set.ensures.next

-- the counts stay within their limits
pub returns-in-Some-Class-clause-within : goal.returns-in-Some-Class-clause-within
returns-in-Some-Class-clause-within g c = found_room c.class.result c.as_some.result _ c.as_some.ensures c.class.ensures.within

pub returns-in-Some-Object-clause-within : goal.returns-in-Some-Object-clause-within
returns-in-Some-Object-clause-within g c = found_room c.object.result c.as_some-in-Some-Object.result _ c.as_some-in-Some-Object.ensures c.object.ensures.within

pub returns-in-Some-ObjectSet-clause-within : goal.returns-in-Some-ObjectSet-clause-within
returns-in-Some-ObjectSet-clause-within g c = found_room c.set.result c.as_some-in-Some-ObjectSet.result _ c.as_some-in-Some-ObjectSet.ensures c.set.ensures.within
