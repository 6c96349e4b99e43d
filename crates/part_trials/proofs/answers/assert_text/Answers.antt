use Rattle.std.proofs.Common.{lit<, lit≤, refl, subst, sym}
use Rattle.query_io.specs.Printable.{IsPrintable, IsPrintableAnswer, IsPrintableRide}
use Rattle.flex_model.proofs.Found.{All-one}
use Rattle.part_trials.specs.Printed.{one_answer}
use Rattle.part_trials.proofs.answers.assert_text.Goals as goal

pub write_answers-requires : goal.write_answers-requires
write_answers-requires g c =
    let feed = c.args.feed.now in
    let query = c.args.query.now in
    let ride = c.args.ride in
    let printed = c.requires.ride c.new_times-times.result in
    let answer = one_answer ride c.args.walk in
    subst (IsPrintable feed c.new_times-times.result query) (sym c.in_ok-answers.ensures) (record {
      id = c.requires.id;
      count = lit< tt;
      each = All-one (IsPrintableAnswer feed c.new_times-times.result query.walking) answer (record {
        deadline = tt;
        arrival = printed.arrives;
        few = lit≤ tt;
        count = refl;
        rides = All-one (IsPrintableRide feed c.new_times-times.result) ride printed;
        walk = c.requires.walk;
      });
    })
