use Rattle.std.proofs.Common.{[], ◌∷◌, ◌++◌, map, length, ap, arith}
use Rattle.std.proofs.lemmas.List.{append-nil}
use Rattle.sml_tree.specs.Content.{item_content}
use Rattle.sml_tree.specs.Form.{File}
use Rattle.sml_read_parts.specs.Counts.{file_part}
use Rattle.sml_read_parts.proofs.Lists.{read_more, read_end, pushed}
use Rattle.sml_read.proofs.item.file.Goals as goal

-- one more was read
pub more-preserved : goal.more-preserved
more-preserved g c =
    let next = rw c.in-Some.is at c.in_ok-item.ensures.next in (
      omega (arith, next.0, c.more.invariant.0),
      c.in_ok-item.ensures.within,
      read_more (File 0 0 0) (file_part c.more.counts) (file_part c.next_item.new.counts) (λ v. map item_content c.more.items.items ++ v) (λ v. item_content c.in-Some.item ∷ v) (λ v. map item_content c.in_ok-items-2.items.items ++ v)
          c.args.reader.now c.more.reader c.next_item.new.reader c.more.invariant.2 next.1
          (pushed item_content c.more.items.items c.in_ok-items-2.items.items c.in-Some.item c.in_ok-items-2.ensures.items),
    )

-- nothing more is there
pub returns : goal.returns
returns g c =
    let none = rw c.in_default.is at c.in_ok-item.ensures.next in (
      omega (arith, ap length none.0, c.more.invariant.0),
      read_end (File 0 0 0) (file_part c.more.counts) (λ v. map item_content c.more.items.items ++ v) [] (map item_content c.more.items.items) c.args.reader.now c.more.reader c.next_item.new.reader
          c.more.invariant.2 none.1 (append-nil (map item_content c.more.items.items)),
    )
