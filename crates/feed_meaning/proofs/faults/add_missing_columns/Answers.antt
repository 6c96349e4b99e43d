use Rattle.std.proofs.Common.{◌∙◌, ◌++◌, ◌∷◌, [], not, ap, sym, take}
use Rattle.std.specs.Prelude.{is_some}
use Rattle.std.proofs.lemmas.List.{append_assoc, take_all}
use Rattle.flex_model.specs.declared.fault.FaultCode.TheVariants as code
use Rattle.feed_tables.specs.Records.{header_of}
use Rattle.feed_meaning.specs.Tables.{fault}
use Rattle.feed_meaning.proofs.MissingColumns.{faults_of_names, has_more, lacks_more, names_of_schema}
use Rattle.feed_meaning.proofs.faults.add_missing_columns.Goals as goal
use Rattle.feed_meaning.proofs.faults.add_missing_columns.Goals.{then-is_none+in_ok-push, else-is_none}

pub loop-name-preserved : goal.loop-name-preserved
loop-name-preserved c =
    let file = c.args.file in
    let header = header_of c.args.table.now in
    let names = c.args.needed.now in
    let i = c.loop-name.name-index in
    elim c.if-is_none.branch [
      | then-is_none+in_ok-push w ↦
          w.faults-is ∙ w.in_ok-push.ensures.ok ∙ ap (λ fs. fs ++ fault file 1 code.MissingColumn ∷ []) c.loop-name.invariant
          ∙ append_assoc c.args.faults.now (faults_of_names file header (take i names)) (fault file 1 code.MissingColumn ∷ [])
          ∙ ap (λ fs. c.args.faults.now ++ fs) (sym (lacks_more file header names i _ c.loop-name-test.true (ap not (ap is_some (sym c.column.ensures) ∙ c.is_none.ensures ∙ ap not w.if-is_none.true))))
      | else-is_none w ↦
          w.faults-is ∙ c.loop-name.invariant
          ∙ ap (λ fs. c.args.faults.now ++ fs) (sym (has_more file header names i _ c.loop-name-test.true (ap not (ap is_some (sym c.column.ensures) ∙ c.is_none.ensures ∙ ap not w.if-is_none.false))))
    ]

pub returns : goal.returns
returns c = λ schema same.
    let header = header_of c.args.table.now in
    let names = c.args.needed.now in
    c.loop-name.invariant ∙ ap (λ xs. c.args.faults.now ++ faults_of_names c.args.file header xs) (take_all c.loop-name.name-index names c.loop-name-test.false)
    ∙ ap (λ fs. c.args.faults.now ++ fs) (names_of_schema c.args.file header names schema same)
