use Rattle.std.proofs.Common.{not, ◌&&◌, sym, ◌∙◌, ap}
use Rattle.std.specs.List.{list_any}
use Rattle.std.specs.Str.{bytes_eq}
use Rattle.feed_meaning.specs.FeedRules.{is_boarding}
use Rattle.feed_rules.specs.Links.{records_in}
use Rattle.feed_rules.proofs.known_ids.known_stations.Goals as goal

pub returns-in-None : goal.returns-in-None
returns-in-None c = λ tables same text given.
    ap (list_any (bytes_eq text)) c.new.ensures ∙ ap (list_any (λ s. bytes_eq text (s "stop_id") && not (is_boarding s))) (sym (same ∙ ap records_in c.in-None.is))
