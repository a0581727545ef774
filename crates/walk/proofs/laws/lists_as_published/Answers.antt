use Rattle.walk.proofs.Pages.{lists_as_published, published_lists_told}
use Rattle.walk.proofs.laws.lists_as_published.Goals as goal

pub returns : goal.returns
returns c = record { law = lists_as_published; told = published_lists_told }
