use Rattle.drawings.proofs.XmlTexts.{xml_text_is_plain}
use Rattle.drawings.proofs.laws.xml_text_is_plain.Goals as goal

pub returns : goal.returns
returns c = xml_text_is_plain
