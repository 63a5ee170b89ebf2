use Rattle.pages.proofs.Tags.{text_opens_no_tag, data_opens_no_tag}
use Rattle.pages.proofs.laws.embedded_text_opens_no_tag.Goals as goal

pub returns-clause-text : goal.returns-clause-text
returns-clause-text c = text_opens_no_tag

pub returns-clause-data : goal.returns-clause-data
returns-clause-data c = data_opens_no_tag
