use Rattle.std.proofs.Common.{◌≡◌, ◌<◌, ◌∷◌, ◌∙◌, List, sym, length, arith}
use Rattle.json_text.proofs.Walks.{next_read, walk_step}
use Rattle.json_text.proofs.items.JsonItemsIterator.next.Goals as goal

pub returns-clause-steps : goal.returns-clause-steps
returns-clause-steps c =
    let inside = c.self.inside in
    sym c.self.view_is
    ∙ walk_step inside.rows.now inside.end inside.next _ c.self.invariant.1 c.self.invariant.0 c.if-self.false
    (next_read inside.rows.now inside.next _ (omega (arith, c.if-self.false, c.self.invariant.0)))

-- what is left after the first is shorter
shorter : {A : Type 0} (s t : List A) (x : A) → s ≡ x ∷ t → length t < length s
shorter s t x e = rw e (omega arith)

pub returns-clause-goes : goal.returns-clause-goes
returns-clause-goes c = record {
  on = λ _. (tt, tt, shorter _ _ _ (returns-clause-steps c));
  keeps = tt;
  rests = λ _. tt;
}
